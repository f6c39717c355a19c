-- What the kinds of change require of single words and rows.
use Rattle.std.specs.Prelude.{◌≡◌, ◌<◌, ℕ, ◌⊎◌, List, [], ◌∷◌, Some}
use Rattle.ist_core.specs.declared.states.InnerRow.{InnerRow}
use Rattle.ist_core.specs.declared.states.RebuildRow.{RebuildRow}
use Rattle.ist_core.specs.declared.states.ChangeRow.{ChangeRow}
use Rattle.ist_core.specs.declared.lists.Row.{Row}
use Rattle.ist_core.specs.RowLayout.{anchor}
use Rattle.ist_core.specs.References.{LeafAt, InnerAt, ref_of}
use Rattle.ist_core.specs.Pieces.{Inner, Rebuild, row_at}
use Rattle.ist_core.specs.Snapshots.{Snapshot}
use Rattle.ist_core.specs.Rebuilding.{IsDue, IsStarted, IsBuilt}
use Rattle.ist_core.specs.Installing.{IsLeafOf, pair_row, new_leaf}

-- the word names a leaf of the key
pub record NamesLeafOf (t : Snapshot) (word key : ℕ) : Type 0 where
  pub leaf : ℕ
  pub names : ref_of word ≡ Some (LeafAt leaf)
  pub stands : IsLeafOf t leaf key

-- the inner row at the base may be rebuilt below the node: it is due, or is the anchor's child
pub record MayBeRebuilt (t : Snapshot) (node target : ℕ) : Type 0 where
  pub row : InnerRow
  pub published : t.pieces target ≡ Some (Inner row)
  pub due : IsDue row ⊎ (node ≡ anchor)

-- the change puts the built root of the started rebuild into its slot
pub record IsFinishOf (t : Snapshot) (change : ChangeRow) (rebuild : ℕ) : Type 0 where
  pub row : RebuildRow
  pub published : t.pieces rebuild ≡ Some (Rebuild row)
  pub started : IsStarted t rebuild
  pub parent : row.parent ≡ change.node
  pub index : row.index ≡ change.index
  pub to : change.to ≡ row.root
  pub built : IsBuilt t row.root

-- the rows are a pair row at the base, over the leaf at `other` with this key and the change's, and the change's leaf
pub record IsPairAndLeaf (rows : List Row) (pair : ℕ) (change : ChangeRow) (other other_key : ℕ) : Type 0 where
  pub leaf : ℕ
  pub rows_are : rows ≡ row_at pair (pair_row change.key leaf other_key other) ∷ row_at leaf (new_leaf change) ∷ []

-- the change puts in a fresh pair row with a higher base than its node, over the leaf at `other`
-- with this key and a fresh leaf
pub record PairsWith (change : ChangeRow) (fresh : List Row) (other other_key : ℕ) : Type 0 where
  pub pair : ℕ
  pub to : ref_of change.to ≡ Some (InnerAt pair)
  pub above : change.node < pair
  pub rows : IsPairAndLeaf fresh pair change other other_key
