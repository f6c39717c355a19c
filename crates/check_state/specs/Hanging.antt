-- Which inner rows hang in or below a slot, and the slots that a table has for them.
use Rattle.std.specs.Prelude.{◌≡◌, ◌↔◌, ◌⊎◌, ◌<◌, ℕ, List, Some, None}
use Rattle.std.specs.Ordering.{nat_cmp}
use Rattle.std.specs.BTreeMap as tree
use Rattle.std.specs.BTreeMap.{BTreeMap}
use Rattle.ist_core.specs.declared.states.InnerRow.{InnerRow}
use Rattle.ist_core.specs.declared.states.ChangeRow.{ChangeRow}
use Rattle.ist_core.specs.RowLayout.{anchor}
use Rattle.ist_core.specs.References.{InnerAt, ref_of}
use Rattle.ist_core.specs.Pieces.{Inner, Change}
use Rattle.ist_core.specs.Snapshots.{Snapshot}
use Rattle.ist_core.specs.Elements.{Among}
use Rattle.ist_core.specs.Slots.{logical}
use Rattle.ist_core.specs.Links.{IsChild}
use Rattle.check_events.specs.declared.pasts.Slot.{Slot}
use Rattle.check_state.specs.declared.linking.Link.{Link}

-- ---- rows that hang

-- the inner row is the logical child in slot j of `under`; that slot is slot i of the node or below
-- it
pub data Hangs (t : Snapshot) : ℕ → ℕ → ℕ → ℕ → ℕ → Type 0 where
  hangs_here : {node i child : ℕ} → IsChild t node i child → Hangs t node i node i child
  hangs_below : {node i under j child : ℕ} (row k : ℕ) → IsChild t node i row
      → Hangs t row k under j child
      → Hangs t node i under j child

-- the child, in slot j of `under`, hangs in or below the slot of one of these rows
abbrev pub SomeHangs : Snapshot → List Link → ℕ → ℕ → ℕ → Type 0
SomeHangs t links under j child = (l : Link) × Among l links × Hangs t l.node l.index under j child

-- the row that hangs in slot i of the node, if one does, was added to the rows
abbrev pub PutsLink : Snapshot → ℕ → ℕ → ℕ → List Link → List Link → Type 0
PutsLink t node i word old new =
    (l : Link)
    → Among l new ↔ (Among l old ⊎ ((l.node ≡ node) × (l.index ≡ i) × (logical t.pieces word ≡ Some (InnerAt l.child))))

-- the rows that hang in the slots of the node were added to the rows
abbrev pub PutsLinks : Snapshot → ℕ → List Link → List Link → Type 0
PutsLinks t node old new =
    (l : Link) → Among l new ↔ (Among l old ⊎ ((l.node ≡ node) × IsChild t node l.index l.child))

-- ---- changes that bring rows

-- the change puts an inner row into its slot, and the child hangs there or below
pub record Brings (t : Snapshot) (base under j child : ℕ) : Type 0 where
  pub change : ChangeRow
  pub published : t.pieces base ≡ Some (Change change)
  pub row : ℕ
  pub to : ref_of change.to ≡ Some (InnerAt row)
  pub hangs : Hangs t change.node change.index under j child

-- the inner row that the change puts in, if it does, is the logical child in its slot
abbrev pub BringsInPlace : Snapshot → ℕ → Type 0
BringsInPlace t base =
    (change : ChangeRow) (row : ℕ) → t.pieces base ≡ Some (Change change)
    → ref_of change.to ≡ Some (InnerAt row) → IsChild t change.node change.index row

-- ---- tables of slots

-- the table has slot i of the node for the child
abbrev pub HasSlot : BTreeMap ℕ Slot → ℕ → ℕ → ℕ → Type 0
HasSlot slots node i child = tree.get nat_cmp slots child ≡ Some record { node = node; index = i }

-- the second table has the slots of the first and those with P
abbrev pub AddsSlots : BTreeMap ℕ Slot → BTreeMap ℕ Slot → (ℕ → ℕ → ℕ → Type 0) → Type 0
AddsSlots old new P =
    (node i child : ℕ) → HasSlot new node i child ↔ (HasSlot old node i child ⊎ P node i child)

-- no row is at the anchor; each logical child is an inner row with a higher base than its node,
-- hangs in only one slot, and the table has no other slot for it
pub record HangsOnce (slots : BTreeMap ℕ Slot) (t : Snapshot) : Type 0 where
  pub anchor_free : t.pieces anchor ≡ None
  pub rows : (node i child : ℕ) → IsChild t node i child
      → (row : InnerRow) × (t.pieces child ≡ Some (Inner row))
  pub above : (node i child : ℕ) → IsChild t node i child → node < child
  pub one : (node i other j child : ℕ) → IsChild t node i child → IsChild t other j child
      → (node ≡ other) × (i ≡ j)
  pub told : (node i child : ℕ) (slot : Slot) → IsChild t node i child
      → tree.get nat_cmp slots child ≡ Some slot
      → slot ≡ record { node = node; index = i }
