-- Where the calls of one pass are among the changes of a log, and which calls are fresh.
use Rattle.std.specs.Prelude.{◌≡◌, ℕ, ◌+◌, ◌<◌, ◌≤◌, ◌==◌, Bool, true, false, if◌then◌else◌, List, [], ◌∷◌, map, filter, length, slice_get, is_some, Option, Some}
use Rattle.ist_core.specs.declared.commands.Command.{Command}
use Rattle.ist_core.specs.declared.commands.Command.TheVariants.{Put, Remove, Get}
use Rattle.ist_core.specs.declared.calls.Call.{Call}
use Rattle.ist_core.specs.declared.pairs.Pair.{Pair}
use Rattle.ist_core.specs.Map.{Map, map_of, reply_to}
use Rattle.ist_core.specs.Elements.{Among, Each}
use Rattle.ist_core.specs.Logs.{Log}
use Rattle.ist_core.specs.Changes.{Entry, changes_of, map_at}

-- does a command with this reply change the map: a put does, and a remove that took a value away
abbrev pub makes_entry : Command → Option ℕ → Bool
makes_entry (Put key value) reply = true
makes_entry (Remove key) reply = is_some reply
makes_entry (Get key) reply = false

-- does the call change the map
abbrev pub is_change : Call → Bool
is_change call = makes_entry call.command call.reply

-- the entry that a call of the owner makes
abbrev pub entry_by : ℕ → Call → Entry
entry_by owner call = record { owner = owner; command = call.command; reply = call.reply }

-- the entries of one owner
abbrev pub entries_by : ℕ → List Entry → List Entry
entries_by owner entries = filter (λ entry. entry.owner == owner) entries

-- a call that changes nothing has the reply of the map at its position
pub record IsRead (m : Map) (entries : List Entry) (call : Call) : Type 0 where
  pub within : call.position ≤ length entries
  pub reply : call.reply ≡ reply_to (map_at m entries call.position) call.command

-- the first position at which a later call may be: past the call's entry, if it makes one
abbrev pub position_after : Call → ℕ
position_after call = if is_change call then call.position + 1 else call.position

-- the second call comes after the first: at no lower position, past the first call's entry, and
-- with a higher stamp
pub record Follows (call later : Call) : Type 0 where
  pub position : position_after call ≤ later.position
  pub stamp : call.stamp < later.stamp

-- each call follows all calls before it
abbrev pub AllFollow : List Call → Type 0
AllFollow [] = Unit {0}
AllFollow (call ∷ calls) = Each (Follows call) calls × AllFollow calls

-- the calls of the pass with this number are placed among the changes of a map: each call that
-- changes the map is the pass's entry at its position and there are no other entries of the pass,
-- each other call has the reply of the map at its position, and the calls are in order
pub record StandAmong (m : Map) (entries : List Entry) (number : ℕ) (calls : List Call) : Type 0 where
  pub made : (call : Call) → Among call calls → is_change call ≡ true
      → slice_get entries call.position ≡ Some (entry_by number call)
  pub exactly : entries_by number entries ≡ map (entry_by number) (filter is_change calls)
  pub read : (call : Call) → Among call calls → is_change call ≡ false → IsRead m entries call
  pub in_order : AllFollow calls

-- the calls of the pass with this number are placed in the log
abbrev pub StandsIn : List Pair → ℕ → Log → ℕ → List Call → Type 0
StandsIn pairs words log number calls = StandAmong (map_of pairs) (changes_of pairs words log) number calls

-- the call is fresh: it comes after all that its pass had seen when the call began, given as this
-- log and this stamp
pub record IsFresh (pairs : List Pair) (words : ℕ) (seen : Log) (stamp : ℕ) (call : Call) : Type 0 where
  pub position : length (changes_of pairs words seen) ≤ call.position
  pub later : stamp < call.stamp
