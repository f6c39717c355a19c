-- The leaves below a node, and the contents of the tree.
use Rattle.std.specs.Prelude.{◌≡◌, ℕ, List, [], ◌∷◌, ◌++◌, map, Option, Some}
use Rattle.ist_core.specs.declared.pairs.Pair.{Pair}
use Rattle.ist_core.specs.declared.states.LeafRow.{LeafRow}
use Rattle.ist_core.specs.declared.states.InnerRow.{InnerRow}
use Rattle.ist_core.specs.References.{Ref, Empty, LeafAt, InnerAt}
use Rattle.ist_core.specs.Pieces.{Leaf, Inner, Pieces}
use Rattle.ist_core.specs.Snapshots.{Snapshot}
use Rattle.ist_core.specs.Slots.{logical}

-- a leaf and its base
pub record PlacedLeaf : Type 0 where
  pub base : ℕ
  pub row : LeafRow

-- the pair of a leaf
abbrev pub pair_of : PlacedLeaf → Pair
pair_of leaf = record { key = leaf.row.key; value = leaf.row.value }

mutual
  -- these leaves are reached from a reference through logical slots, child by child
  pub data HasLeaves (ps : Pieces) : Option Ref → List PlacedLeaf → Type 0 where
    none_here : HasLeaves ps (Some Empty) []
    leaf_here : {base : ℕ} (r : LeafRow) → ps base ≡ Some (Leaf r)
        → HasLeaves ps (Some (LeafAt base)) (record { base = base; row = r } ∷ [])
    row_here : {base : ℕ} {leaves : List PlacedLeaf} (r : InnerRow) → ps base ≡ Some (Inner r)
        → SlotsHaveLeaves ps r.slots leaves → HasLeaves ps (Some (InnerAt base)) leaves

  -- these leaves are reached from slots with these words, slot by slot
  pub data SlotsHaveLeaves (ps : Pieces) : List ℕ → List PlacedLeaf → Type 0 where
    no_slot : SlotsHaveLeaves ps [] []
    one_slot : {word : ℕ} {words : List ℕ} {here rest : List PlacedLeaf}
        → HasLeaves ps (logical ps word) here
        → SlotsHaveLeaves ps words rest → SlotsHaveLeaves ps (word ∷ words) (here ++ rest)

-- the contents of the tree: the pairs of the leaves below the anchor, child by child
pub record HasContents (t : Snapshot) (pairs : List Pair) : Type 0 where
  pub leaves : List PlacedLeaf
  pub reached : HasLeaves t.pieces (logical t.pieces t.anchor) leaves
  pub pairs_are : pairs ≡ map pair_of leaves
