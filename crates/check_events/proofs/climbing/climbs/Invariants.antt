use Rattle.std.proofs.Common.{◌↔◌}
use Rattle.ist_core.specs.LogTerms.{Snapshot}
use Rattle.check_events.specs.Mirroring.{Mirrors}
use Rattle.check_events.specs.Remembering.{SlotsRise}
use Rattle.check_events.specs.Ways.{Climbs}
use Rattle.check_events.proofs.climbing.climbs.Given as goal

-- the rest of the way up gives the result for the whole
abbrev pub invariant-loop-at : goal.invariant-loop-at
invariant-loop-at l = (t : Snapshot) → Mirrors l.replica t → SlotsRise l.past.slots
    → Climbs l.past.slots t l.key l.at ↔ Climbs l.past.slots t l.key l.node

abbrev pub decreases-loop-at : goal.decreases-loop-at
decreases-loop-at l = l.at
