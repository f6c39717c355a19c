-- What is known of the calls of one caller: their places in its log, and what became of its changes
-- in the longest log.
use Rattle.std.specs.Prelude.{◌≡◌, ℕ, ◌⊎◌, List, [], ◌∷◌, ◌++◌, map, filter, Option, Some, None}
use Rattle.ist_core.specs.declared.calls.Call.{Call}
use Rattle.ist_core.specs.declared.commands.Command.{Command}
use Rattle.ist_core.specs.declared.pairs.Pair.{Pair}
use Rattle.ist_core.specs.declared.states.ChangeRow.{ChangeRow}
use Rattle.ist_core.specs.Snapshots.{Snapshot}
use Rattle.ist_core.specs.Logs.{Log, GoesOn}
use Rattle.ist_core.specs.Lawful.{state_of}
use Rattle.ist_core.specs.Rebuilding.{IsUpdate}
use Rattle.ist_core.specs.Deciding.{IsPending, AllResolvedOf}
use Rattle.ist_core.specs.Changes.{Entry, changes_of, command_of}
use Rattle.ist_core.specs.Standing.{is_change, entry_by, entries_by, StandsIn}
use Rattle.ist_rule.specs.declared.view.Pending.{Pending}

-- the entries that the calls of a caller make
abbrev pub entries_made : ℕ → List Call → List Entry
entries_made number calls = map (entry_by number) (filter is_change calls)

-- the calls are in a prefix of the log
pub record StandsInPrefix (pairs : List Pair) (words : ℕ) (log : Log) (number : ℕ)
    (calls : List Call) : Type 0 where
  pub prefix : Log
  pub goes_on : GoesOn prefix log
  pub stands : StandsIn pairs words prefix number calls

-- the entries of the caller in the log are exactly those that its calls make
abbrev pub HasMade : List Pair → ℕ → Log → ℕ → List Call → Type 0
HasMade pairs words log number calls =
    entries_by number (changes_of pairs words log) ≡ entries_made number calls

-- a put or remove of the caller waits to be decided
pub record IsUndecided (t : Snapshot) (number base : ℕ) : Type 0 where
  pub change : ChangeRow
  pub pending : IsPending t base change
  pub owned : change.owner ≡ number
  pub update : IsUpdate change.kind

-- between calls: the entries of the caller are its calls', and each change that it installed is
-- resolved
pub record IsBetween (pairs : List Pair) (words : ℕ) (log : Log) (number : ℕ) (calls : List Call) :
    Type 0 where
  pub made : HasMade pairs words log number calls
  pub resolved : AllResolvedOf (state_of pairs words log) log number

-- in a call that made no entry yet: at most one put or remove is undecided, and it is the call's
-- command
pub record IsAtWork (pairs : List Pair) (words : ℕ) (log : Log) (number : ℕ) (calls : List Call)
    (command : Option Command) : Type 0 where
  pub made : HasMade pairs words log number calls
  pub its_command : (base : ℕ) (u : IsUndecided (state_of pairs words log) number base)
      → command_of u.change ≡ command
  pub one : (base other : ℕ) → IsUndecided (state_of pairs words log) number base
      → IsUndecided (state_of pairs words log) number other → base ≡ other

-- in a call that made its entry: the entry has the call's command, and nothing is undecided
pub record IsEntered (pairs : List Pair) (words : ℕ) (log : Log) (number : ℕ) (calls : List Call)
    (command : Option Command) : Type 0 where
  pub entry : Entry
  pub made : entries_by number (changes_of pairs words log) ≡ entries_made number calls ++ entry
      ∷ []
  pub its_command : command ≡ Some entry.command
  pub none : (base : ℕ) → ¬ (IsUndecided (state_of pairs words log) number base)

-- what became of the caller's changes, if it has ended these calls and is in this call, or in none
abbrev pub CallStands : List Pair → ℕ → Log → ℕ → List Call → Option Pending → Type 0
CallStands pairs words log number calls None = IsBetween pairs words log number calls
CallStands pairs words log number calls (Some pending) =
    IsAtWork pairs words log number calls pending.command
    ⊎ IsEntered pairs words log number calls pending.command
