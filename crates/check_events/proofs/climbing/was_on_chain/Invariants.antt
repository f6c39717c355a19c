use Rattle.std.proofs.Common.{◌↔◌}
use Rattle.ist_core.specs.LogTerms.{Snapshot, Log}
use Rattle.check_events.specs.Remembering.{KnowsSlots, KnowsWays}
use Rattle.check_events.specs.Ways.{ClimbsBy}
use Rattle.check_events.proofs.climbing.was_on_chain.Given as goal

-- the rest of the way up gives the result for the whole
abbrev pub invariant-loop-at : goal.invariant-loop-at
invariant-loop-at l =
    (first : Snapshot) (log : Log) → KnowsSlots l.past.slots first log → KnowsWays l.past.ways first log
    → ClimbsBy l.past.slots l.row l.at ↔ ClimbsBy l.past.slots l.row l.node

abbrev pub decreases-loop-at : goal.decreases-loop-at
decreases-loop-at l = l.at
