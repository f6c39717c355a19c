-- What a slot holds, and what it means.
use Rattle.std.specs.Prelude.{◌≡◌, ℕ, slice_get, Option, Some, None}
use Rattle.ist_core.specs.declared.states.InnerRow.{InnerRow}
use Rattle.ist_core.specs.Arithmetic.{child_count}
use Rattle.ist_core.specs.RowLayout.{anchor}
use Rattle.ist_core.specs.References.{Ref, InnerAt, ChangeAt, RebuildAt, ref_of}
use Rattle.ist_core.specs.Statuses.{open_word}
use Rattle.ist_core.specs.Pieces.{Piece, Inner, Change, Rebuild, Pieces}
use Rattle.ist_core.specs.Snapshots.{Snapshot}
use Rattle.ist_core.specs.After.{side_of}

-- slot i of the node holds the word. The anchor is a node with slot 0 only
pub data SlotHolds (t : Snapshot) (node i word : ℕ) : Type 0 where
  in_anchor : node ≡ anchor → i ≡ 0 → t.anchor ≡ word → SlotHolds t node i word
  in_row : (r : InnerRow) → t.pieces node ≡ Some (Inner r) → slice_get r.slots i ≡ Some word
      → SlotHolds t node i word

-- the node is open: updates of its slots may take effect. The anchor always is
pub data IsOpen (t : Snapshot) (node : ℕ) : Type 0 where
  anchor_is : node ≡ anchor → IsOpen t node
  row_is : (r : InnerRow) → t.pieces node ≡ Some (Inner r) → r.status ≡ open_word → IsOpen t node

-- child i of the node is the one for the key
pub data IsChildFor (t : Snapshot) (node key i : ℕ) : Type 0 where
  of_anchor : node ≡ anchor → i ≡ 0 → IsChildFor t node key i
  of_row : (r : InnerRow) → t.pieces node ≡ Some (Inner r) → i ≡ child_count r.keys key
      → IsChildFor t node key i

-- ---- logical slots

-- what the row at a change's base reads as: `to` if the change was decided yes, and `from`
-- otherwise
abbrev pub change_reads : Option Piece → Option Ref
change_reads (Some (Change change)) = ref_of (side_of change)
change_reads _ = None

-- what a reference reads as once a change is replaced by what it reads as
abbrev pub past_change : Pieces → Option Ref → Option Ref
past_change ps (Some (ChangeAt base)) = change_reads (ps base)
past_change ps ref = ref

-- what the row at a rebuild's base reads as: its target
abbrev pub rebuild_reads : Option Piece → Option Ref
rebuild_reads (Some (Rebuild r)) = Some (InnerAt r.target)
rebuild_reads _ = None

-- what a reference reads as once a rebuild is replaced by its target
abbrev pub past_rebuild : Pieces → Option Ref → Option Ref
past_rebuild ps (Some (RebuildAt base)) = rebuild_reads (ps base)
past_rebuild ps ref = ref

-- what a slot word reads as: a change as the side that its decision leaves, and a rebuild as its
-- target. A change that leaves a rebuild reads as that rebuild's target
abbrev pub logical : Pieces → ℕ → Option Ref
logical ps word = past_rebuild ps (past_change ps (ref_of word))
