-- What the stability law asks for is needed: an event that is enabled after both logs has it.
-- `src/stability.rt` lists the clauses.
use Rattle.std.specs.Prelude.{List, Some, ℕ, ◌≡◌}
use Rattle.ist_core.specs.declared.events.Event.{Event}
use Rattle.ist_core.specs.declared.events.Event.TheVariants.{Install, Okay, Pass}
use Rattle.ist_core.specs.declared.lists.Row.{Row}
use Rattle.ist_core.specs.declared.pairs.Pair.{Pair}
use Rattle.ist_core.specs.declared.states.ChangeRow.{ChangeRow}
use Rattle.ist_core.specs.Enabled.{Enabled}
use Rattle.ist_core.specs.ImageLaws.{IsNoLose}
use Rattle.ist_core.specs.Lawful.{Lawful, state_of}
use Rattle.ist_core.specs.Logs.{GoesOn, Log}
use Rattle.ist_core.specs.StartLayout.{start}
use Rattle.ist_core.specs.Writing.{first_change}
use Rattle.laws_stability.specs.Meanwhile.{IsMarked, IsStillUndecided, NoneRefused}
use Rattle.laws_stability.specs.Stability.{AddsNothing}
use Rattle.laws_stability.specs.Words.{FindsItsWord}

-- an event that adds nothing, and isn't a Lose, still finds its word
abbrev pub WordsAreNeeded : Type 0
WordsAreNeeded =
    (pairs : List Pair) (words : ℕ) (earlier log : Log) (event : Event) → Lawful pairs words log
    → GoesOn earlier log → Enabled (start pairs words) earlier event
    → Enabled (start pairs words) log event → AddsNothing event → IsNoLose event
    → FindsItsWord (state_of pairs words earlier) (state_of pairs words log) event

-- no change of the caller on the node of an Install was decided no meanwhile
abbrev pub NoRefusalIsNeeded : Type 0
NoRefusalIsNeeded =
    (pairs : List Pair) (words : ℕ) (earlier log : Log) → Lawful pairs words log
    → GoesOn earlier log → (caller base : ℕ) (rows : List Row)
    → Enabled (start pairs words) log (Install caller base rows)
    → (change : ChangeRow) → first_change rows ≡ Some change
    → NoneRefused (state_of pairs words earlier) (state_of pairs words log) caller change.node

-- the change of an Okay is undecided
abbrev pub NoDecisionIsNeeded : Type 0
NoDecisionIsNeeded =
    (pairs : List Pair) (words : ℕ) (log : Log) → Lawful pairs words log → (caller base : ℕ)
    → Enabled (start pairs words) log (Okay caller base)
    → IsStillUndecided (state_of pairs words log) base

-- the node of a Pass is marked
abbrev pub TheMarkIsNeeded : Type 0
TheMarkIsNeeded =
    (pairs : List Pair) (words : ℕ) (log : Log) → Lawful pairs words log
    → (caller node i word : ℕ) → Enabled (start pairs words) log (Pass caller node i word)
    → IsMarked (state_of pairs words log) node
