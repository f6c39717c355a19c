-- The changes of a log are what happened to the map: to each key, to the contents, and in each
-- reply.
use Rattle.std.specs.Prelude.{◌≡◌, ℕ, true, List, ◌∷◌, length, map, slice_get, Some}
use Rattle.std.specs.FinMap as fin
use Rattle.std.specs.List.Sorted.{IsStrictlyIncreasing}
use Rattle.ist_core.specs.declared.commands.Command.{Command}
use Rattle.ist_core.specs.declared.pairs.Pair.{Pair}
use Rattle.ist_core.specs.declared.states.ChangeRow.{ChangeRow}
use Rattle.ist_core.specs.declared.events.Event.TheVariants.{Decide}
use Rattle.ist_core.specs.Map.{Map, map_of, pairs_of}
use Rattle.ist_core.specs.Statuses.{decided_yes}
use Rattle.ist_core.specs.Elements.{Each}
use Rattle.ist_core.specs.Pieces.{Change}
use Rattle.ist_core.specs.Logs.{Log, GoesOn}
use Rattle.ist_core.specs.Leaves.{HasContents}
use Rattle.ist_core.specs.Changes.{Entry, command_of, reply_of, changes_of, map_after_entries}
use Rattle.ist_core.specs.Lawful.{Lawful, state_of}
use Rattle.ist_core.specs.Standing.{makes_entry}
use Rattle.ist_core.specs.Histories.{told_by_entry, IsLegal}
use Rattle.laws_histories.specs.Finding.{Gives}

-- the map after the changes of a log that begins with these pairs
abbrev pub map_now : List Pair → ℕ → Log → Map
map_now pairs words log = map_after_entries (map_of pairs) (changes_of pairs words log)

-- the tree gives each key what the map after the changes has for it
abbrev pub TreeGivesTheMap : Type 0
TreeGivesTheMap =
    (pairs : List Pair) (words : ℕ) (log : Log) → Lawful pairs words log → (key : ℕ)
    → Gives (state_of pairs words log) key (fin.get (map_now pairs words log) key)

-- there are contents, and they are the pairs of that map
abbrev pub ContentsAreThePairs : Type 0
ContentsAreThePairs =
    (pairs : List Pair) (words : ℕ) (log : Log) → Lawful pairs words log
    → HasContents (state_of pairs words log) (pairs_of (map_now pairs words log))

-- the keys of these pairs are strictly increasing
abbrev pub PairsRise : Type 0
PairsRise =
    (pairs : List Pair) (words : ℕ) (log : Log) → Lawful pairs words log
    → IsStrictlyIncreasing (map (λ pair. pair.key) (pairs_of (map_now pairs words log)))

-- the changes by themselves are a legal history: each has the reply of the map at its place
abbrev pub AreLegal : Map → List Entry → Type 0
AreLegal m entries = IsLegal m (map told_by_entry entries)

-- the changes of each lawful log are a legal history
abbrev pub ChangesAreLegal : Type 0
ChangesAreLegal =
    (pairs : List Pair) (words : ℕ) (log : Log) → Lawful pairs words log
    → AreLegal (map_of pairs) (changes_of pairs words log)

-- ---- which updates are changes

-- the entry at the position belongs to the change at the base: a put or remove that was decided yes
-- after `position` changes. The entry has the change's owner and command, and the reply that is
-- read from its row
pub record IsEntryOf (pairs : List Pair) (words : ℕ) (log : Log) (position base : ℕ) : Type 0 where
  pub caller : ℕ
  pub earlier : Log
  pub decided : GoesOn (Decide caller base true ∷ earlier) log
  pub position_is : position ≡ length (changes_of pairs words earlier)
  pub change : ChangeRow
  pub published : (state_of pairs words log).pieces base ≡ Some (Change change)
  pub decision : change.decision ≡ decided_yes
  pub command : Command
  pub command_is : command_of change ≡ Some command
  pub entry : slice_get (changes_of pairs words log) position
      ≡ Some record {
        owner = change.owner;
        command = command;
        reply = reply_of (state_of pairs words log).pieces change;
      }

-- each put or remove that was decided yes has an entry
abbrev pub UpdatesHaveEntries : Type 0
UpdatesHaveEntries =
    (pairs : List Pair) (words : ℕ) (log : Log) → Lawful pairs words log
    → (base : ℕ) (change : ChangeRow) (command : Command)
    → (state_of pairs words log).pieces base ≡ Some (Change change) → change.decision ≡ decided_yes
    → command_of change ≡ Some command
    → (position : ℕ) × IsEntryOf pairs words log position base

-- each entry belongs to such a change
abbrev pub EntriesAreUpdates : Type 0
EntriesAreUpdates =
    (pairs : List Pair) (words : ℕ) (log : Log) → Lawful pairs words log
    → (position : ℕ) (entry : Entry) → slice_get (changes_of pairs words log) position ≡ Some entry
    → (base : ℕ) × IsEntryOf pairs words log position base

-- one change has only one entry
abbrev pub EntriesAreOnce : Type 0
EntriesAreOnce =
    (pairs : List Pair) (words : ℕ) (log : Log) → Lawful pairs words log → (base p q : ℕ)
    → IsEntryOf pairs words log p base → IsEntryOf pairs words log q base → p ≡ q

-- one entry belongs to only one change
abbrev pub EntriesAreOfOne : Type 0
EntriesAreOfOne =
    (pairs : List Pair) (words : ℕ) (log : Log) → Lawful pairs words log → (position base other : ℕ)
    → IsEntryOf pairs words log position base → IsEntryOf pairs words log position other
    → base ≡ other

-- each entry changes the map: it is a put, or a remove that took a value away
abbrev pub EntriesChangeTheMap : Type 0
EntriesChangeTheMap =
    (pairs : List Pair) (words : ℕ) (log : Log) → Lawful pairs words log
    → Each (λ entry. makes_entry entry.command entry.reply ≡ true)
    (changes_of pairs words log)
