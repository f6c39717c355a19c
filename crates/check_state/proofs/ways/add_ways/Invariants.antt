use Rattle.std.proofs.Common.{ℕ, List}
use Rattle.ist_core.specs.declared.pairs.Pair.{Pair}
use Rattle.ist_core.specs.WordTerms.{start}
use Rattle.ist_core.specs.LogTerms.{Log, Lawful, state_of}
use Rattle.check_events.specs.Mirroring.{Mirrors}
use Rattle.check_events.specs.Remembering.{KnowsSlots, KnowsWays}
use Rattle.check_state.proofs.ways.add_ways.Given as goal

-- the ways so far are ways
abbrev pub invariant-loop : goal.invariant-loop
invariant-loop l = (pairs : List Pair) (words : ℕ) (log : Log) → Lawful pairs words log
    → Mirrors l.replica (state_of pairs words log) → KnowsSlots l.slots (start pairs words) log
    → KnowsWays l.fn.ways (start pairs words) log → KnowsWays l.ways (start pairs words) log
