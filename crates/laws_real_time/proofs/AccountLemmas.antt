-- Calls whose changes are accounted for are placed in their time. Serves
-- `laws.made_calls_are_linearizable`.
-- calls whose changes are accounted for are placed in their time
use Rattle.std.proofs.Common.{List, arith}
use Rattle.ist_core.specs.TreeTerms.{Map, Entry, map_after_entries}
use Rattle.laws_real_time.specs.Moments.{Moments}
use Rattle.laws_real_time.specs.Joining.{LinearizesTo}
use Rattle.laws_real_time.specs.Timing.{AreInTime}
use Rattle.laws_real_time.specs.Making.{AreAccounted}
use Rattle.laws_real_time.proofs.OrderLemmas.{linearizes}
use Rattle.laws_real_time.proofs.MadeLemmas.{owned, one_of}

in_time : (m : Map) (entries : List Entry) (moments : Moments) → AreAccounted m entries moments
    → AreInTime m entries moments
in_time m entries moments all = grind (arith, owned, one_of)

-- so they are linearizable, and lead to the map after the changes
pub accounted_linearizes : (m : Map) (entries : List Entry) (moments : Moments)
    → AreAccounted m entries moments → LinearizesTo m moments (map_after_entries m entries)
accounted_linearizes m entries moments all = grind (arith, linearizes, in_time)
