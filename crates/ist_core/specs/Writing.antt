-- Which word of the table the step of an event touches: what it finds there, and what it leaves.
use Rattle.std.specs.Prelude.{◌≡◌, ℕ, ◌+◌, ◌<◌, ◌==◌, if◌then◌else◌, List, [], ◌∷◌, length, slice_get, slice_set, Option, Some, None}
use Rattle.ist_core.specs.declared.lists.Row.{Row}
use Rattle.ist_core.specs.declared.states.InnerRow.{InnerRow}
use Rattle.ist_core.specs.declared.states.ChangeRow.{ChangeRow}
use Rattle.ist_core.specs.declared.states.RebuildRow.{RebuildRow}
use Rattle.ist_core.specs.declared.events.Event.{Event}
use Rattle.ist_core.specs.declared.events.Event.TheVariants.{Enter, Reserve, Install, Okay, Decide, Resolve, Count, Mark, Pass, Finish, Root, Draw, Place, Lose}
use Rattle.ist_core.specs.RowLayout.{next_place, callers_place, anchor, anchor_status_place, anchor_slot_place, inner_status_offset, inner_count_offset, slot_place, change_decision_offset, rebuild_root_offset, rebuild_draw_offset}
use Rattle.ist_core.specs.References.{Ref, InnerAt, ChangeAt, ref_of, word_of, unset_word}
use Rattle.ist_core.specs.Statuses.{open_word, marked_word, finished_word, undecided}
use Rattle.ist_core.specs.Elements.{Each}
use Rattle.ist_core.specs.Pieces.{as_inner, as_change, as_rebuild, change_of}
use Rattle.ist_core.specs.Snapshots.{Snapshot}
use Rattle.ist_core.specs.After.{decision_word, side_of}

-- one step on one word: its place, the word that the step finds there, and the word that it leaves.
-- A load leaves what it finds
pub record Touch : Type 0 where
  pub place : ℕ
  pub found : ℕ
  pub left : ℕ

-- ---- places

-- the place of slot i of an inner row, or 0 if there is no row
abbrev pub place_in : ℕ → ℕ → Option InnerRow → ℕ
place_in node i None = 0
place_in node i (Some r) = slot_place node r.degree i

-- the place of slot i of the node. The anchor has one slot
abbrev pub place_of_slot : Snapshot → ℕ → ℕ → ℕ
place_of_slot t node i = if node == anchor then anchor_slot_place else place_in node i (as_inner (t.pieces node))

-- the place of the node's status
abbrev pub place_of_status : ℕ → ℕ
place_of_status node = if node == anchor then anchor_status_place else node + inner_status_offset

-- ---- the events that read their word's place or value from a row

-- an Install exchanges `from` for the change's word in the change's slot
abbrev pub touch_of_install : Snapshot → ℕ → Option ChangeRow → Option Touch
touch_of_install t base None = None
touch_of_install t base (Some change) =
    Some record { place = place_of_slot t change.node change.index; found = change.from; left = word_of (ChangeAt base) }

-- the change that the rows of an Install begin with
abbrev pub first_change : List Row → Option ChangeRow
first_change [] = None
first_change (row ∷ fresh) = change_of row.words

-- an Okay loads the status of the change's node
abbrev pub touch_of_okay : Option ChangeRow → Option Touch
touch_of_okay None = None
touch_of_okay (Some change) = Some record { place = place_of_status change.node; found = open_word; left = open_word }

-- a Resolve exchanges the change's word for its side in the change's slot
abbrev pub touch_of_resolve : Snapshot → ℕ → Option ChangeRow → Option Touch
touch_of_resolve t base None = None
touch_of_resolve t base (Some change) =
    Some record { place = place_of_slot t change.node change.index; found = word_of (ChangeAt base); left = side_of change }

-- a Count adds 1 to the node's count
abbrev pub touch_of_count : ℕ → Option InnerRow → Option Touch
touch_of_count node None = None
touch_of_count node (Some r) = Some record { place = node + inner_count_offset; found = r.count; left = r.count + 1 }

-- a Draw adds 1 to the rebuild's draw word
abbrev pub touch_of_draw : ℕ → Option RebuildRow → Option Touch
touch_of_draw rebuild None = None
touch_of_draw rebuild (Some r) = Some record { place = rebuild + rebuild_draw_offset; found = r.draw; left = r.draw + 1 }

-- a Place exchanges Unset for the word in a slot of the root
abbrev pub touch_in_root : Snapshot → Option Ref → ℕ → ℕ → Option Touch
touch_in_root t (Some (InnerAt root)) i word = Some record { place = place_of_slot t root i; found = unset_word; left = word }
touch_in_root t _ i word = None

-- the same, for the root that the rebuild names
abbrev pub touch_of_place : Snapshot → Option RebuildRow → ℕ → ℕ → Option Touch
touch_of_place t None i word = None
touch_of_place t (Some r) i word = touch_in_root t (ref_of r.root) i word

-- ---- all events

-- what the step of the event touches. A Lose touches no word that the image speaks of
abbrev pub touch_of : Snapshot → Event → Option Touch
touch_of t (Enter caller) = Some record { place = callers_place; found = t.callers; left = t.callers + 1 }
touch_of t (Reserve caller base size) = Some record { place = next_place; found = base; left = base + size }
touch_of t (Install caller base rows) = touch_of_install t base (first_change rows)
touch_of t (Okay caller base) = touch_of_okay (as_change (t.pieces base))
touch_of t (Decide caller base said) =
    Some record { place = base + change_decision_offset; found = undecided; left = decision_word said }
touch_of t (Resolve caller base) = touch_of_resolve t base (as_change (t.pieces base))
touch_of t (Count caller node) = touch_of_count node (as_inner (t.pieces node))
touch_of t (Mark caller node) = Some record { place = node + inner_status_offset; found = open_word; left = marked_word }
touch_of t (Pass caller node i word) = Some record { place = place_of_slot t node i; found = word; left = word }
touch_of t (Finish caller node keys) =
    Some record { place = node + inner_status_offset; found = marked_word; left = finished_word keys }
touch_of t (Root caller rebuild word rows) =
    Some record { place = rebuild + rebuild_root_offset; found = unset_word; left = word }
touch_of t (Draw caller rebuild part) = touch_of_draw rebuild (as_rebuild (t.pieces rebuild))
touch_of t (Place caller rebuild i word rows) = touch_of_place t (as_rebuild (t.pieces rebuild)) i word
touch_of t (Lose caller bases) = None

-- the words after a touch
abbrev pub touched : List ℕ → Option Touch → List ℕ
touched words None = words
touched words (Some touch) = slice_set words touch.place touch.left

-- ---- what an event publishes

-- the rows that the event publishes
abbrev pub published_by : Event → List Row
published_by (Install caller base rows) = rows
published_by (Root caller rebuild word rows) = rows
published_by (Place caller rebuild i word rows) = rows
published_by _ = []

-- each of the rows is in the words, at its base
abbrev pub RowsStand : List ℕ → List Row → Type 0
RowsStand words rows =
    Each (λ row. (k : ℕ) → k < length row.words → slice_get words (row.base + k) ≡ slice_get row.words k) rows
