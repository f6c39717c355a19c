-- What the search for a key finds in a state, by the children for the key.
use Rattle.std.specs.Prelude.{◌≡◌, ℕ, slice_get, Option, Some, None}
use Rattle.ist_core.specs.declared.states.LeafRow.{LeafRow}
use Rattle.ist_core.specs.declared.states.InnerRow.{InnerRow}
use Rattle.ist_core.specs.Arithmetic.{child_count}
use Rattle.ist_core.specs.References.{Ref, Empty, LeafAt, InnerAt}
use Rattle.ist_core.specs.Pieces.{Leaf, Inner, Pieces}
use Rattle.ist_core.specs.Snapshots.{Snapshot}
use Rattle.ist_core.specs.Slots.{logical}
use Rattle.ist_core.specs.Changes.{value_in}

-- from a reference, the children for the key lead to nothing or to a leaf, which gives the key this
-- value or none
pub data Finds (ps : Pieces) (key : ℕ) : Option Ref → Option ℕ → Type 0 where
  in_nothing : Finds ps key (Some Empty) None
  in_leaf : {base : ℕ} (r : LeafRow) → ps base ≡ Some (Leaf r)
      → Finds ps key (Some (LeafAt base)) (value_in (Some (Leaf r)) key)
  in_node : {base word : ℕ} {value : Option ℕ} (r : InnerRow) → ps base ≡ Some (Inner r)
      → slice_get r.slots (child_count r.keys key) ≡ Some word
      → Finds ps key (logical ps word) value → Finds ps key (Some (InnerAt base)) value

-- the tree gives the key this value: the search from the anchor finds it
abbrev pub Gives : Snapshot → ℕ → Option ℕ → Type 0
Gives t key value = Finds t.pieces key (logical t.pieces t.anchor) value
