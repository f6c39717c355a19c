-- The calls on one table after those on another: a tree that is opened over the pairs of a closed one.
use Rattle.std.specs.Prelude.{◌≡◌, ℕ, List, ◌++◌, map, None}
use Rattle.ist_core.specs.Map.{Map, replay}
use Rattle.ist_core.specs.Changes.{Entry, map_after_entries}
use Rattle.laws_real_time.specs.Moments.{Moments, in_call}
use Rattle.laws_real_time.specs.RealTime.{IsLinearizable}
use Rattle.laws_real_time.specs.Timing.{AreInTime}
use Rattle.laws_real_time.specs.Making.{calls_returned}

-- the history is linearizable, and its order leads to this map
pub record LinearizesTo (m : Map) (moments : Moments) (last : Map) : Type 0 where
  pub linear : IsLinearizable m moments
  pub leads : replay m (map (λ x. x.command) linear.order) ≡ last

-- placed calls lead to the map after the changes
abbrev pub PlacedCallsLead : Type 0
PlacedCallsLead =
    (m : Map) (entries : List Entry) (moments : Moments) → AreInTime m entries moments
    → LinearizesTo m moments (map_after_entries m entries)

-- no call is in progress
abbrev pub IsOver : Moments → Type 0
IsOver moments = (caller : ℕ) → in_call caller moments ≡ None

-- the calls of a caller in moments that follow others, after which no call is in progress, are those in
-- the others and then its own
abbrev pub CallsJoin : Type 0
CallsJoin =
    (first second : Moments) → IsOver first → (number : ℕ)
    → calls_returned number (second ++ first)
    ≡ calls_returned number first ++ calls_returned number second

-- moments after which no call is in progress, followed by moments on the map that they lead to, are
-- linearizable together, and lead to the same map
abbrev pub HistoriesJoin : Type 0
HistoriesJoin =
    (m middle last : Map) (first second : Moments)
    → LinearizesTo m first middle → IsOver first → LinearizesTo middle second last
    → LinearizesTo m (second ++ first) last
