-- What the checker knows after the events so far.
use Rattle.std.specs.Prelude.{ℕ, List}
use Rattle.ist_core.specs.declared.pairs.Pair.{Pair}
use Rattle.ist_core.specs.declared.events.Event.{Event}
use Rattle.ist_core.specs.declared.events.Event.TheVariants.{Root, Draw, Place, Lose}
use Rattle.ist_core.specs.StartLayout.{start}
use Rattle.ist_core.specs.Logs.{Log}
use Rattle.ist_core.specs.Lawful.{Lawful, state_of}
use Rattle.check_events.specs.declared.pasts.Past.{Past}
use Rattle.check_events.specs.declared.replicas.Replica.{Replica}
use Rattle.check_events.specs.Mirroring.{Mirrors}
use Rattle.check_events.specs.Remembering.{KnowsOkays, KnowsCalls, KnowsDraws, KnowsPasses, KnowsUpdates, KnowsSlots, KnowsWays, KnowsRefusals, KnowsStarts, KnowsBuilds, KnowsLeaves}
use Rattle.check_fairness.specs.Targets.{KnowsTargets}
use Rattle.check_fairness.specs.Knowing.{KnowsLists}

-- each table except the slots and the ways holds what it should of the log
pub record Remembers (past : Past) (pairs : List Pair) (words : ℕ) (log : Log) : Type 0 where
  pub okayed : KnowsOkays past.okayed log
  pub called : KnowsCalls past.called (state_of pairs words log) log
  pub drawn : KnowsDraws past.drawn log
  pub passed : KnowsPasses past.passed log
  pub updates : KnowsUpdates past.updates (state_of pairs words log) log
  pub refused : KnowsRefusals past.refused (state_of pairs words log)
  pub started : KnowsStarts past.started (state_of pairs words log)
  pub targets : KnowsTargets past.targets (state_of pairs words log)
  pub lists : KnowsLists past.building (state_of pairs words log)
  pub builds : KnowsBuilds past.builds log
  pub leaves : KnowsLeaves past.leaves (state_of pairs words log)

-- the log is lawful, the replica mirrors the state after it, and the tables hold what they should
pub record Knows (replica : Replica) (past : Past) (pairs : List Pair) (words : ℕ) (log : Log) : Type 0 where
  pub lawful : Lawful pairs words log
  pub mirrors : Mirrors replica (state_of pairs words log)
  pub slots : KnowsSlots past.slots (start pairs words) log
  pub ways : KnowsWays past.ways (start pairs words) log
  pub remembers : Remembers past pairs words log

-- the event is one of a build: what was built is published, a part is drawn, or rows are given up
abbrev pub IsOfBuild : Event → Type 0
IsOfBuild (Root caller rebuild word rows) = Unit {0}
IsOfBuild (Draw caller rebuild part) = Unit {0}
IsOfBuild (Place caller rebuild i word rows) = Unit {0}
IsOfBuild (Lose caller bases) = Unit {0}
IsOfBuild _ = ⊥
