-- How the calls of a pass grow as the log grows.
use Rattle.std.specs.Prelude.{◌≡◌, ◌≢◌, ℕ, ◌+◌, ◌<◌, ◌≤◌, true, false, List, [], ◌∷◌, ◌++◌, length, Some}
use Rattle.ist_core.specs.declared.calls.Call.{Call}
use Rattle.ist_core.specs.declared.commands.Command.{Command}
use Rattle.ist_core.specs.declared.pairs.Pair.{Pair}
use Rattle.ist_core.specs.declared.states.ChangeRow.{ChangeRow}
use Rattle.ist_core.specs.declared.events.Event.TheVariants.{Decide}
use Rattle.ist_core.specs.Map.{map_of}
use Rattle.ist_core.specs.Statuses.{decided_yes}
use Rattle.ist_core.specs.Elements.{Each}
use Rattle.ist_core.specs.Pieces.{Change}
use Rattle.ist_core.specs.Logs.{Log, GoesOn}
use Rattle.ist_core.specs.Changes.{Entry, command_of, reply_of, entry_of, changes_of}
use Rattle.ist_core.specs.Lawful.{Lawful, state_of}
use Rattle.ist_core.specs.Standing.{is_change, entry_by, entries_by, IsRead, StandsIn, IsFresh}

-- ---- longer logs

-- the longer log has the changes of the earlier one first, and then more
pub record HasMoreChanges (pairs : List Pair) (words : ℕ) (earlier log : Log) : Type 0 where
  pub more : List Entry
  pub are : changes_of pairs words log ≡ changes_of pairs words earlier ++ more

-- each longer log has more changes in this sense
abbrev pub ChangesGoOn : Type 0
ChangesGoOn =
    (pairs : List Pair) (words : ℕ) (earlier log : Log) → GoesOn earlier log
    → HasMoreChanges pairs words earlier log

-- the owner has the same entries in both logs
abbrev pub MadeNoEntry : List Pair → ℕ → ℕ → Log → Log → Type 0
MadeNoEntry pairs words number earlier log =
    entries_by number (changes_of pairs words log)
    ≡ entries_by number (changes_of pairs words earlier)

-- calls that are placed in a log are placed in each longer log, if their pass made no entry
-- meanwhile
abbrev pub CallsStandOn : Type 0
CallsStandOn =
    (pairs : List Pair) (words : ℕ) (earlier log : Log) (number : ℕ) (calls : List Call)
    → GoesOn earlier log → MadeNoEntry pairs words number earlier log
    → StandsIn pairs words earlier number calls → StandsIn pairs words log number calls

-- ---- one more call

-- what holds of a pass between calls: its calls are placed in the log that it has seen, with stamps
-- up to its own stamp
pub record HasCalls (pairs : List Pair) (words : ℕ) (seen : Log) (number stamp : ℕ)
    (calls : List Call) : Type 0 where
  pub stand : StandsIn pairs words seen number calls
  pub stamps : Each (λ call. call.stamp ≤ stamp) calls

-- a pass keeps its calls in a longer log, with a stamp that is no lower, if it made no entry
-- meanwhile
abbrev pub CallsAreKept : Type 0
CallsAreKept =
    (pairs : List Pair) (words : ℕ) (earlier log : Log) (number told stamp : ℕ) (calls : List Call)
    → GoesOn earlier log → MadeNoEntry pairs words number earlier log → told ≤ stamp
    → HasCalls pairs words earlier number told calls → HasCalls pairs words log number stamp calls

-- a call that changes nothing is added at any fresh position at which the map has its reply
abbrev pub ReadingsStand : Type 0
ReadingsStand =
    (pairs : List Pair) (words : ℕ) (seen log : Log) (number stamp : ℕ)
    (calls : List Call) (call : Call)
    → HasCalls pairs words seen number stamp calls
    → GoesOn seen log → MadeNoEntry pairs words number seen log
    → is_change call ≡ false → IsFresh pairs words seen stamp call
    → IsRead (map_of pairs) (changes_of pairs words log) call
    → HasCalls pairs words log number call.stamp (calls ++ call ∷ [])

-- the call is the effect of an update: the change at the base was decided yes after the earlier log
-- and made this entry there, and its owner has no other entry since the call began
pub record TookEffect (pairs : List Pair) (words : ℕ) (seen log : Log) (number : ℕ)
    (call : Call) : Type 0 where
  pub earlier : Log
  pub caller : ℕ
  pub base : ℕ
  pub since : GoesOn seen earlier
  pub until : GoesOn (Decide caller base true ∷ earlier) log
  pub entry : let ps = (state_of pairs words earlier).pieces in
      entry_of ps (ps base) ≡ entry_by number call ∷ []
  pub position : call.position ≡ length (changes_of pairs words earlier)
  pub alone : entries_by number (changes_of pairs words log)
      ≡ entries_by number (changes_of pairs words seen) ++ entry_by number call ∷ []

-- the update took effect as a call with this stamp: the call has the command, and the reply that is
-- read from the change's row
pub record CameToCall (pairs : List Pair) (words : ℕ) (seen log : Log) (number stamp : ℕ)
    (command : Command) (change : ChangeRow) : Type 0 where
  pub position : ℕ
  pub call : Call
  pub call_is : call ≡ record {
    command = command;
    reply = reply_of (state_of pairs words log).pieces change;
    position = position;
    stamp = stamp;
  }
  pub changes : is_change call ≡ true
  pub effect : TookEffect pairs words seen log number call

-- a put or remove of the owner that is decided yes, and wasn't in the earlier log, took effect if
-- its owner has at most one entry since
abbrev pub UpdatesTakeEffect : Type 0
UpdatesTakeEffect =
    (pairs : List Pair) (words : ℕ) (seen log : Log) → Lawful pairs words log → GoesOn seen log
    → (number stamp base : ℕ) (change : ChangeRow) (command : Command)
    → (state_of pairs words log).pieces base ≡ Some (Change change)
    → change.decision ≡ decided_yes → change.owner ≡ number → command_of change ≡ Some command
    → ((old : ChangeRow) → (state_of pairs words seen).pieces base ≡ Some (Change old)
    → old.decision ≢ decided_yes)
    → length (entries_by number (changes_of pairs words log))
    ≤ length (entries_by number (changes_of pairs words seen)) + 1
    → CameToCall pairs words seen log number stamp command change

-- the call is added to the calls of its pass, and is fresh
pub record IsAdded (pairs : List Pair) (words : ℕ) (seen log : Log) (number stamp : ℕ)
    (calls : List Call) (call : Call) : Type 0 where
  pub has_calls : HasCalls pairs words log number call.stamp (calls ++ call ∷ [])
  pub fresh : IsFresh pairs words seen stamp call

-- a call that changes the map is added at its entry, and is fresh
abbrev pub UpdatesStand : Type 0
UpdatesStand =
    (pairs : List Pair) (words : ℕ) (seen log : Log) (number stamp : ℕ)
    (calls : List Call) (call : Call)
    → HasCalls pairs words seen number stamp calls
    → TookEffect pairs words seen log number call → is_change call ≡ true → stamp < call.stamp
    → IsAdded pairs words seen log number stamp calls call
