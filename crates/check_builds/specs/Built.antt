-- Ideal subtrees by the rows of an event: which of the rows, read as words, belong to a subtree.
use Rattle.std.specs.Prelude.{◌≡◌, ◌<◌, ◌≤◌, ℕ, List, [], ◌∷◌, ◌++◌, length, map, take, drop, replicate, Option, Some, None}
use Rattle.std.specs.List.{range_with_len}
use Rattle.ist_core.specs.declared.lists.Row.{Row}
use Rattle.ist_core.specs.declared.states.InnerRow.{InnerRow}
use Rattle.ist_core.specs.Arithmetic.{degree, part_len}
use Rattle.ist_core.specs.References.{Ref, Empty, LeafAt, InnerAt, ref_of, unset_word}
use Rattle.ist_core.specs.Statuses.{open_word}
use Rattle.ist_core.specs.Shapes.{share_from}
use Rattle.ist_core.specs.Parts.{parts, first_keys}
use Rattle.ist_core.specs.Pieces.{Inner, inner_of}
use Rattle.ist_core.specs.Leaves.{PlacedLeaf}

-- how many of n keys each of `left` parts has, from part j on
abbrev pub part_lens_from : ℕ → ℕ → ℕ → List ℕ
part_lens_from n j left = map (part_len n) (range_with_len j left)

-- the key of a leaf
abbrev pub key_of_leaf : PlacedLeaf → ℕ
key_of_leaf leaf = leaf.row.key

-- the words of the row are the words of the top row of the ideal subtree over these leaves, with a
-- base above the given one
pub record IsTopRow (row : Row) (r : InnerRow) (leaves : List PlacedLeaf) (above : ℕ) : Type 0 where
  pub read : inner_of row.words ≡ Some (Inner r)
  pub two : 2 ≤ length leaves
  pub higher : above < row.base
  pub status : r.status ≡ open_word
  pub count : r.count ≡ 0
  pub degree : r.degree ≡ degree (length leaves)
  pub size : r.size ≡ length leaves
  pub keys : r.keys ≡ first_keys key_of_leaf (drop 1 (parts leaves))

mutual
  -- the reference is the ideal subtree over these leaves, and these are its inner rows
  pub data BuildsRef : Ref → List PlacedLeaf → ℕ → List Row → Type 0 where
    builds_none : {above : ℕ} → BuildsRef Empty [] above []
    builds_one : {base above : ℕ} {leaf : PlacedLeaf} → leaf.base ≡ base
        → BuildsRef (LeafAt base) (leaf ∷ []) above []
    builds_more : {above : ℕ} {leaves : List PlacedLeaf} {row : Row} {rows : List Row} (r : InnerRow)
        → IsTopRow row r leaves above → BuildsAll r.slots (parts leaves) row.base rows
        → BuildsRef (InnerAt row.base) leaves above (row ∷ rows)

  -- each word is the ideal subtree over its part
  pub data BuildsAll : List ℕ → List (List PlacedLeaf) → ℕ → List Row → Type 0 where
    builds_end : {above : ℕ} → BuildsAll [] [] above []
    builds_part : {word above : ℕ} {words : List ℕ} {part : List PlacedLeaf}
        {following : List (List PlacedLeaf)} {here rest : List Row} (ref : Ref)
        → ref_of word ≡ Some ref → BuildsRef ref part above here → BuildsAll words following above rest
        → BuildsAll (word ∷ words) (part ∷ following) above (here ++ rest)

-- the word names the ideal subtree over these leaves, and these are its inner rows
pub record BuildsAt (word : ℕ) (leaves : List PlacedLeaf) (above : ℕ) (rows : List Row) : Type 0 where
  pub ref : Ref
  pub names : ref_of word ≡ Some ref
  pub builds : BuildsRef ref leaves above rows

-- the first k of the rows have P, and no other number of them; or no number of them does
abbrev pub CountsRows : (List Row → Type 0) → List Row → Option ℕ → Type 0
CountsRows P rows None = (used rest : List Row) → rows ≡ used ++ rest → ¬ (P used)
CountsRows P rows (Some k) = P (take k rows) × ((used rest : List Row) → rows ≡ used ++ rest → P used → length used ≡ k)

-- the words of the row are the words of the top row, with these slots
pub record HasTopSlots (row : Row) (leaves : List PlacedLeaf) (above : ℕ) (slots : List ℕ) : Type 0 where
  pub top : InnerRow
  pub is_top : IsTopRow row top leaves above
  pub slots_are : top.slots ≡ slots

-- the word and the rows are only the top row, with every slot Unset
pub record IsTopAlone (word : ℕ) (leaves : List PlacedLeaf) (target : ℕ) (rows : List Row) : Type 0 where
  pub row : Row
  pub rows_are : rows ≡ row ∷ []
  pub names : ref_of word ≡ Some (InnerAt row.base)
  pub top : HasTopSlots row leaves target (replicate (degree (length leaves)) unset_word)

-- the word and the rows are a root over these leaves of a target with k keys
pub data IsRootOf (word k : ℕ) (leaves : List PlacedLeaf) (target : ℕ) (rows : List Row) : Type 0 where
  whole : k < share_from → BuildsAt word leaves target rows → IsRootOf word k leaves target rows
  top_alone : share_from ≤ k → IsTopAlone word leaves target rows → IsRootOf word k leaves target rows
