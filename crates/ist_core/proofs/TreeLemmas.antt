-- Trees of fresh rows: an ideal subtree, the top row of a shared root, and the start layout. Serves
-- the conjunct `names`.
use Rattle.std.proofs.Common.{◌≡◌, ℕ, zero, suc, ◌<◌, List, [], ◌∷◌, ◌++◌, replicate, length, slice_get, Some, sym, subst, arith}
use Rattle.ist_core.specs.Types.{LeafRow, InnerRow}
use Rattle.ist_core.specs.WordTerms.{degree, Ref, Empty, Unset, LeafAt, InnerAt, ref_of, unset_word, Pieces, Leaf, Inner, IsIdeal, AreIdeal, of_none, of_one, of_more, no_part, one_part}
use Rattle.ist_core.specs.LogTerms.{Each}
use Rattle.ist_core.specs.TreeTerms.{PlacedLeaf, IsRoot, root_whole, root_top}
use Rattle.ist_core.proofs.OptionLemmas.{each_append}
use Rattle.ist_core.proofs.ReferenceLemmas.{ref_of-unset}
use Rattle.ist_core.proofs.NamingLemmas.{SlotNames, RowNames, RootNames}

mutual
  -- the reference leads to a tree of published rows with bases above the given one, parents below
  -- children: its inner rows
  pub data IsTree (ps : Pieces) : Ref → ℕ → List ℕ → Type 0 where
    tree_none : {above : ℕ} → IsTree ps Empty above []
    tree_unset : {above : ℕ} → IsTree ps Unset above []
    tree_leaf : {base above : ℕ} (r : LeafRow) → ps base ≡ Some (Leaf r)
        → IsTree ps (LeafAt base) above []
    tree_row : {base above : ℕ} {rows : List ℕ} (r : InnerRow) → ps base ≡ Some (Inner r)
        → above < base
        → AreTrees ps r.slots base rows → IsTree ps (InnerAt base) above (base ∷ rows)

  -- each word leads to a tree
  pub data AreTrees (ps : Pieces) : List ℕ → ℕ → List ℕ → Type 0 where
    no_tree : {above : ℕ} → AreTrees ps [] above []
    one_tree : {word above : ℕ} {words here rest : List ℕ} (ref : Ref) → ref_of word ≡ Some ref
        → IsTree ps ref above here
        → AreTrees ps words above rest → AreTrees ps (word ∷ words) above (here ++ rest)

-- ---- trees

mutual
  -- an ideal subtree is a tree of published rows
  pub tree_of_ideal : (ps : Pieces) (ref : Ref) (leaves : List PlacedLeaf) (above : ℕ)
      (rows : List ℕ) → IsIdeal ps ref leaves above rows → IsTree ps ref above rows
  tree_of_ideal ps _ _ _ _ of_none = tree_none
  tree_of_ideal ps _ _ _ _ (of_one {leaf = leaf} same e) = tree_leaf leaf.row e
  tree_of_ideal ps _ _ above _ (of_more {base = base} {leaves = leaves} {rows = rows} r top below) =
      tree_row r top.published top.higher (trees_of_ideal ps r.slots _ base rows below)

  trees_of_ideal : (ps : Pieces) (words : List ℕ) (parts : List (List PlacedLeaf)) (above : ℕ)
      (rows : List ℕ) → AreIdeal ps words parts above rows → AreTrees ps words above rows
  trees_of_ideal ps _ _ _ _ no_part = no_tree
  trees_of_ideal ps _ _ _ _ (one_part {word = word} {above = above} {words = words} {here = here}
      {rest = rest} {part = part} {following = following} ref e first more) =
      one_tree ref e (tree_of_ideal ps ref part above here first)
      (trees_of_ideal ps words following above rest more)

-- slots that aren't set yet lead to trees without rows
unset_trees : (ps : Pieces) (above n : ℕ) → AreTrees ps (replicate n unset_word) above []
unset_trees ps above zero = no_tree
unset_trees ps above (suc n) = one_tree Unset ref_of-unset tree_unset (unset_trees ps above n)

-- a root leads to a tree above its target
pub root_tree : (ps : Pieces) (word k : ℕ) (leaves : List PlacedLeaf) (target : ℕ) (rows : List ℕ)
    → IsRoot ps word k leaves target rows
    → (ref : Ref) × (ref_of word ≡ Some ref) × IsTree ps ref target rows
root_tree ps word k leaves target rows (root_whole ref few e ideal) = grind (arith, tree_of_ideal)
root_tree ps word k leaves target rows (root_top base row many e top unset one) = (
  InnerAt base,
  e,
  subst (λ bs. IsTree ps (InnerAt base) target bs) (sym one)
      (tree_row row top.published top.higher
      (subst (λ ws. AreTrees ps ws base []) (sym unset)
      (unset_trees ps base (degree (length leaves))))),
)

-- ---- what the words of a tree name

-- a tree may hang in a slot of a node below it
pub tree_slot : (ps : Pieces) (ref : Ref) (above : ℕ) (rows : List ℕ) (i : ℕ)
    → IsTree ps ref above rows → SlotNames ps above i (Some ref)
tree_slot ps _ above _ i tree_none = tt
tree_slot ps _ above _ i tree_unset = tt
tree_slot ps _ above _ i (tree_leaf r e) = (r, e)
tree_slot ps _ above _ i (tree_row r e higher below) = (higher, (r, e))

-- a tree may be the root of a rebuild with a lower target
pub tree_root : (ps : Pieces) (ref : Ref) (above : ℕ) (rows : List ℕ) → IsTree ps ref above rows
    → RootNames ps above (Some ref)
tree_root ps _ above _ tree_none = tt
tree_root ps _ above _ tree_unset = tt
tree_root ps _ above _ (tree_leaf r e) = (r, e)
tree_root ps _ above _ (tree_row r e higher below) = (higher, (r, e))

-- each slot of the tree's row may hold what it holds
pub trees_slot : (ps : Pieces) (words : List ℕ) (above : ℕ) (rows : List ℕ)
    → AreTrees ps words above rows → (start i word : ℕ) → slice_get words i ≡ Some word
    → SlotNames ps above start (ref_of word)
trees_slot ps _ above _ no_tree start i word e = absurd (cc)
trees_slot ps _ above _ (one_tree {word = w} {here = here} ref is first more) start zero word e =
    grind (arith, SlotNames, tree_slot)
trees_slot ps _ above _ (one_tree {words = words} {rest = rest} ref is first more) start (suc i)
    word e = trees_slot ps words above rest more start i word e

-- a row of a tree: an inner row whose words name what they may
pub record IsTreeRow (ps : Pieces) (base : ℕ) : Type 0 where
  pub row : InnerRow
  pub published : ps base ≡ Some (Inner row)
  pub names : RowNames ps base (Inner row)

mutual
  -- the words of each inner row of a tree name what they may
  pub tree_rows : (ps : Pieces) (ref : Ref) (above : ℕ) (rows : List ℕ) → IsTree ps ref above rows
      → Each (IsTreeRow ps) rows
  tree_rows ps _ above _ tree_none = tt
  tree_rows ps _ above _ tree_unset = tt
  tree_rows ps _ above _ (tree_leaf r e) = tt
  tree_rows ps _ above _ (tree_row {base = base} {rows = rows} r e higher below) = (
    record {
      row = r;
      published = e;
      names = λ i word f. trees_slot ps r.slots base rows below i i word f;
    },
    trees_rows ps r.slots base rows below,
  )

  trees_rows : (ps : Pieces) (words : List ℕ) (above : ℕ) (rows : List ℕ)
      → AreTrees ps words above rows → Each (IsTreeRow ps) rows
  trees_rows ps _ above _ no_tree = tt
  trees_rows ps _ above _ (one_tree {words = words} {here = here} {rest = rest} ref is first more) =
      each_append (IsTreeRow ps) here rest (tree_rows ps ref above here first)
      (trees_rows ps words above rest more)
