-- What the word in a slot names: a published row of its kind, or nothing.
use Rattle.std.specs.Prelude.{◌≡◌, ℕ, ◌+◌, ◌<◌, length, Some}
use Rattle.ist_core.specs.declared.states.LeafRow.{LeafRow}
use Rattle.ist_core.specs.declared.states.InnerRow.{InnerRow}
use Rattle.ist_core.specs.declared.states.ChangeRow.{ChangeRow}
use Rattle.ist_core.specs.declared.states.RebuildRow.{RebuildRow}
use Rattle.ist_core.specs.References.{Empty, Unset, LeafAt, InnerAt, ChangeAt, RebuildAt, ref_of}
use Rattle.ist_core.specs.Pieces.{Leaf, Inner, Change, Rebuild}
use Rattle.ist_core.specs.Snapshots.{Snapshot}

-- the word may be in slot i of the node: it names nothing, a leaf, an inner row above the node, a
-- change of this slot, or a rebuild for this slot
pub data NamesRow (t : Snapshot) (node i word : ℕ) : Type 0 where
  no_row : ref_of word ≡ Some Empty → NamesRow t node i word
  not_yet : ref_of word ≡ Some Unset → NamesRow t node i word
  a_leaf : (base : ℕ) (row : LeafRow) → ref_of word ≡ Some (LeafAt base) → t.pieces base ≡ Some (Leaf row)
      → NamesRow t node i word
  an_inner_row : (base : ℕ) (row : InnerRow) → ref_of word ≡ Some (InnerAt base)
      → t.pieces base ≡ Some (Inner row) → node < base → NamesRow t node i word
  a_change : (base : ℕ) (row : ChangeRow) → ref_of word ≡ Some (ChangeAt base)
      → t.pieces base ≡ Some (Change row) → row.node ≡ node → row.index ≡ i → NamesRow t node i word
  a_rebuild : (base : ℕ) (row : RebuildRow) → ref_of word ≡ Some (RebuildAt base)
      → t.pieces base ≡ Some (Rebuild row) → row.parent ≡ node → row.index ≡ i → NamesRow t node i word

-- an inner row has `degree` slots and one key less
pub record HasDegree (r : InnerRow) : Type 0 where
  pub keys : length r.keys + 1 ≡ r.degree
  pub slots : length r.slots ≡ r.degree
