-- The changes of a log: what took effect on the map, in one order.
use Rattle.std.specs.Prelude.{ℕ, ◌==◌, true, if◌then◌else◌, List, [], ◌∷◌, ◌++◌, map, take, Option, Some, None}
use Rattle.ist_core.specs.declared.commands.Command.{Command}
use Rattle.ist_core.specs.declared.commands.Command.TheVariants.{Put, Remove}
use Rattle.ist_core.specs.declared.pairs.Pair.{Pair}
use Rattle.ist_core.specs.declared.states.ChangeRow.{ChangeRow}
use Rattle.ist_core.specs.declared.events.Event.TheVariants.{Decide}
use Rattle.ist_core.specs.Map.{Map, replay}
use Rattle.ist_core.specs.References.{Ref, LeafAt, ref_of}
use Rattle.ist_core.specs.Statuses.{put_kind, remove_kind}
use Rattle.ist_core.specs.Pieces.{Piece, Leaf, Change, Pieces}
use Rattle.ist_core.specs.Snapshots.{Snapshot}
use Rattle.ist_core.specs.StartLayout.{start}
use Rattle.ist_core.specs.Logs.{Log, state}

-- one change of the map: its owner, its command, and the reply to it
pub record Entry : Type 0 where
  pub owner : ℕ
  pub command : Command
  pub reply : Option ℕ

-- the command of a put or remove; changes of other kinds have none
abbrev pub command_of : ChangeRow → Option Command
command_of change =
    if change.kind == put_kind then Some (Put change.key change.value)
    else (if change.kind == remove_kind then Some (Remove change.key)
    else None)

-- the value that a row gives the key: a leaf of this key gives its own, any other row gives none
abbrev pub value_in : Option Piece → ℕ → Option ℕ
value_in (Some (Leaf r)) key = if r.key == key then Some r.value else None
value_in _ key = None

-- the value that the referenced row gives the key
abbrev pub value_at : Pieces → Option Ref → ℕ → Option ℕ
value_at ps (Some (LeafAt base)) key = value_in (ps base) key
value_at ps _ key = None

-- the reply to a change: the value of the leaf that it replaces, if that leaf has its key
abbrev pub reply_of : Pieces → ChangeRow → Option ℕ
reply_of ps change = value_at ps (ref_of change.from) change.key

-- the entry of a change with this command, if it has one
abbrev pub entry_for : Pieces → ChangeRow → Option Command → List Entry
entry_for ps change None = []
entry_for ps change (Some command) = record { owner = change.owner; command = command; reply = reply_of ps change } ∷ []

-- the entry of a row, if it is a put or remove
abbrev pub entry_of : Pieces → Option Piece → List Entry
entry_of ps (Some (Change change)) = entry_for ps change (command_of change)
entry_of ps _ = []

-- the changes of a log, the oldest first: one entry for each Decide with yes of a put or remove
abbrev pub changes : Snapshot → Log → List Entry
changes first [] = []
changes first (Decide caller base true ∷ log) =
    let ps = (state first log).pieces in
    changes first log ++ entry_of ps (ps base)
changes first (_ ∷ log) = changes first log

-- the changes of a log that begins at the start layout
abbrev pub changes_of : List Pair → ℕ → Log → List Entry
changes_of pairs words log = changes (start pairs words) log

-- the map after some changes
abbrev pub map_after_entries : Map → List Entry → Map
map_after_entries m entries = replay m (map (λ entry. entry.command) entries)

-- the map after the first `position` changes
abbrev pub map_at : Map → List Entry → ℕ → Map
map_at m entries position = map_after_entries m (take position entries)
