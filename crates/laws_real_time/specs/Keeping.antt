-- Moments beside a lawful log: what is kept of both as the log goes on, and as calls begin and end.
use Rattle.std.specs.Prelude.{◌≡◌, ℕ, ◌≤◌, true, false, ◌∷◌, List, take, length, slice_get, Option, Some, None}
use Rattle.ist_core.specs.declared.calls.Call.{Call}
use Rattle.ist_core.specs.declared.commands.Command.{Command}
use Rattle.ist_core.specs.declared.pairs.Pair.{Pair}
use Rattle.ist_core.specs.Map.{Map, map_of}
use Rattle.ist_core.specs.Elements.{Each}
use Rattle.ist_core.specs.Logs.{Log, GoesOn}
use Rattle.ist_core.specs.Lawful.{Lawful}
use Rattle.ist_core.specs.Changes.{Entry, changes_of, map_after_entries}
use Rattle.ist_core.specs.Standing.{is_change, entry_by, entries_by, IsRead}
use Rattle.laws_real_time.specs.declared.moments.Deed.{Deed}
use Rattle.laws_real_time.specs.declared.moments.Deed.TheVariants.{Begins, Returns, GivesUp}
use Rattle.laws_real_time.specs.declared.moments.Moment.{Moment}
use Rattle.laws_real_time.specs.Moments.{Moments, Begun, in_call, ended, IsWellFormed}
use Rattle.laws_real_time.specs.Joining.{LinearizesTo}
use Rattle.laws_real_time.specs.Timing.{NumbersNeverFall, IsInTime}
use Rattle.laws_real_time.specs.Making.{calls_returned, changes_by, HasMadeChanges}

-- what a caller did, when the log was this one
abbrev pub moment_now : List Pair → ℕ → Log → ℕ → Deed → Moment
moment_now pairs words log caller deed =
    record {
      caller = caller;
      length = length log;
      changes = length (changes_of pairs words log);
      deed = deed;
    }

-- the moment notes the length and the number of changes of a prefix of the log
pub record NotesPrefix (pairs : List Pair) (words : ℕ) (log : Log) (moment : Moment) : Type 0 where
  pub prefix : Log
  pub goes_on : GoesOn prefix log
  pub length_is : moment.length ≡ length prefix
  pub changes_is : moment.changes ≡ length (changes_of pairs words prefix)

-- the moments are well-formed, they note prefixes of the log, the returned calls are placed in their
-- time, and when the call that a caller is in began, its changes were those of its returned calls
pub record KeepsTime (pairs : List Pair) (words : ℕ) (log : Log) (moments : Moments) : Type 0 where
  pub well_formed : IsWellFormed moments
  pub never_fall : NumbersNeverFall moments
  pub counted : Each (NotesPrefix pairs words log) moments
  pub placed : Each (IsInTime (map_of pairs) (changes_of pairs words log)) (ended moments)
  pub began : (number : ℕ) (begun : Begun) → in_call number moments ≡ Some begun
      → entries_by number (take begun.changes (changes_of pairs words log))
      ≡ changes_by number (calls_returned number moments)

-- a longer log keeps the moments
abbrev pub LongerLogsKeep : Type 0
LongerLogsKeep =
    (pairs : List Pair) (words : ℕ) (log longer : Log) (moments : Moments) → GoesOn log longer
    → KeepsTime pairs words log moments → KeepsTime pairs words longer moments

-- a caller in no call, whose changes are its calls', may begin a call
abbrev pub BeginningsKeep : Type 0
BeginningsKeep =
    (pairs : List Pair) (words : ℕ) (log : Log) (moments : Moments) (caller : ℕ)
    (command : Option Command)
    → in_call caller moments ≡ None
    → entries_by caller (changes_of pairs words log)
    ≡ changes_by caller (calls_returned caller moments)
    → KeepsTime pairs words log moments
    → KeepsTime pairs words log (moment_now pairs words log caller (Begins command) ∷ moments)

-- a call of the caller has its position among the changes: it is the change there, or has the map's
-- reply
pub record IsPlacedCall (m : Map) (entries : List Entry) (caller : ℕ) (call : Call) : Type 0 where
  pub made : is_change call ≡ true
      → slice_get entries call.position ≡ Some (entry_by caller call)
  pub read : is_change call ≡ false → IsRead m entries call

-- a caller's call may return with its command, at a position after it began
abbrev pub ReturnsKeep : Type 0
ReturnsKeep =
    (pairs : List Pair) (words : ℕ) (log : Log) (moments : Moments) (caller : ℕ) (begun : Begun)
    (call : Call)
    → in_call caller moments ≡ Some begun → begun.command ≡ Some call.command
    → begun.changes ≤ call.position
    → IsPlacedCall (map_of pairs) (changes_of pairs words log) caller call
    → KeepsTime pairs words log moments
    → KeepsTime pairs words log (moment_now pairs words log caller (Returns call) ∷ moments)

-- a caller's call may end without a reply
abbrev pub GivingUpKeeps : Type 0
GivingUpKeeps =
    (pairs : List Pair) (words : ℕ) (log : Log) (moments : Moments) (caller : ℕ) (begun : Begun)
    → in_call caller moments ≡ Some begun → KeepsTime pairs words log moments
    → KeepsTime pairs words log (moment_now pairs words log caller GivesUp ∷ moments)

-- moments beside a lawful log are linearizable, if each caller's changes are accounted for, and lead to
-- the map after the changes
abbrev pub KeptCallsAreLinearizable : Type 0
KeptCallsAreLinearizable =
    (pairs : List Pair) (words : ℕ) (log : Log) (moments : Moments) → Lawful pairs words log
    → KeepsTime pairs words log moments
    → ((number : ℕ) → HasMadeChanges (changes_of pairs words log) number (calls_returned number moments) (in_call number moments))
    → LinearizesTo (map_of pairs) moments
    (map_after_entries (map_of pairs) (changes_of pairs words log))
