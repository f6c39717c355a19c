-- The law over lawful logs on callers that made no entry. `src/walks.rt` names it.
use Rattle.std.specs.Prelude.{List, None, Some, ℕ, ◌↔◌, ◌≡◌, ◌≢◌}
use Rattle.ist_core.specs.declared.commands.Command.{Command}
use Rattle.ist_core.specs.declared.events.Event.TheVariants.{Install}
use Rattle.ist_core.specs.declared.events.Event.{Event}
use Rattle.ist_core.specs.declared.pairs.Pair.{Pair}
use Rattle.ist_core.specs.declared.states.ChangeRow.{ChangeRow}
use Rattle.ist_core.specs.Authors.{GoesOnBy}
use Rattle.ist_core.specs.Changes.{command_of}
use Rattle.ist_core.specs.Deciding.{AllResolvedOf}
use Rattle.ist_core.specs.Lawful.{Lawful, state_of}
use Rattle.ist_core.specs.Logs.{GoesOn, Log}
use Rattle.ist_core.specs.Pieces.{Change}
use Rattle.ist_core.specs.Rebuilding.{IsUpdate}
use Rattle.ist_core.specs.Snapshots.{Snapshot}
use Rattle.ist_core.specs.Statuses.{decided_yes}
use Rattle.laws_histories.specs.Calls.{MadeNoEntry}

-- each put or remove of the caller that is decided yes in the log was already so in the earlier one
abbrev pub WasAccepted : List Pair → ℕ → ℕ → Log → Log → Type 0
WasAccepted pairs words number earlier log =
    (base : ℕ) (change : ChangeRow) (command : Command)
    → (state_of pairs words log).pieces base ≡ Some (Change change)
    → change.owner ≡ number → change.decision ≡ decided_yes → command_of change ≡ Some command
    → (old : ChangeRow) × ((state_of pairs words earlier).pieces base ≡ Some (Change old))
    × (old.decision ≡ decided_yes)

-- a caller has the same entries in both logs exactly if this holds
abbrev pub EntriesComeByYes : Type 0
EntriesComeByYes =
    (pairs : List Pair) (words : ℕ) (earlier log : Log) → Lawful pairs words log
    → GoesOn earlier log → (number : ℕ)
    → MadeNoEntry pairs words number earlier log ↔ WasAccepted pairs words number earlier log

-- no put or remove of the caller that was published since is decided yes
abbrev pub NoneAcceptedSince : List Pair → ℕ → ℕ → Log → Log → Type 0
NoneAcceptedSince pairs words number earlier log =
    (base : ℕ) (change : ChangeRow) (command : Command)
    → (state_of pairs words earlier).pieces base ≡ None
    → (state_of pairs words log).pieces base ≡ Some (Change change)
    → change.owner ≡ number → command_of change ≡ Some command → change.decision ≢ decided_yes

-- if all changes of the caller were resolved in the earlier log, that is enough
abbrev pub NoYesMakesNoEntry : Type 0
NoYesMakesNoEntry =
    (pairs : List Pair) (words : ℕ) (earlier log : Log) → Lawful pairs words log
    → GoesOn earlier log → (number : ℕ)
    → AllResolvedOf (state_of pairs words earlier) earlier number
    → NoneAcceptedSince pairs words number earlier log
    → MadeNoEntry pairs words number earlier log

-- the event installs no put or remove of the caller that is decided yes in the state
abbrev pub InstallsNoYes : Snapshot → ℕ → Event → Type 0
InstallsNoYes t caller (Install by base rows) =
    by ≡ caller → (change : ChangeRow) → t.pieces base ≡ Some (Change change)
    → IsUpdate change.kind → change.decision ≢ decided_yes
InstallsNoYes t caller _ = Unit {0}

-- the same holds if the log went on by such events only. A call knows this if it is given up,
-- begins again after a no, or found nothing to remove: it knows the outcome of each change that it
-- installed
abbrev pub InstallsWithoutYesMakeNoEntry : Type 0
InstallsWithoutYesMakeNoEntry =
    (pairs : List Pair) (words : ℕ) (earlier log : Log) → Lawful pairs words log → (number : ℕ)
    → GoesOnBy (InstallsNoYes (state_of pairs words log) number) earlier log
    → AllResolvedOf (state_of pairs words earlier) earlier number
    → MadeNoEntry pairs words number earlier log

-- a caller that made no entry from a first log to a second, nor from the second to a third, made
-- none from the first to the third
abbrev pub NoEntriesJoin : Type 0
NoEntriesJoin =
    (pairs : List Pair) (words : ℕ) (first second third : Log) (number : ℕ)
    → MadeNoEntry pairs words number first second → MadeNoEntry pairs words number second third
    → MadeNoEntry pairs words number first third
