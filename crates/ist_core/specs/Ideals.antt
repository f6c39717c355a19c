-- Ideal subtrees: the balanced subtree over some leaves, which a rebuild builds to replace an old
-- one.
use Rattle.std.specs.Prelude.{◌≡◌, ℕ, ◌<◌, ◌≤◌, List, [], ◌∷◌, ◌++◌, length, drop, Some}
use Rattle.ist_core.specs.declared.states.InnerRow.{InnerRow}
use Rattle.ist_core.specs.Arithmetic.{degree}
use Rattle.ist_core.specs.References.{Ref, Empty, LeafAt, InnerAt, ref_of}
use Rattle.ist_core.specs.Statuses.{open_word}
use Rattle.ist_core.specs.Parts.{parts, first_keys}
use Rattle.ist_core.specs.Pieces.{Leaf, Inner, Pieces}
use Rattle.ist_core.specs.Leaves.{PlacedLeaf}

-- the inner row at the base is the top of the ideal subtree over these leaves, whatever its slots
-- hold: it was never changed, its base is above the given one, and key j is the key of the first
-- leaf of part j
pub record IsTop (ps : Pieces) (base : ℕ) (r : InnerRow) (leaves : List PlacedLeaf) (above : ℕ) : Type 0 where
  pub published : ps base ≡ Some (Inner r)
  pub two : 2 ≤ length leaves
  pub higher : above < base
  pub status : r.status ≡ open_word
  pub count : r.count ≡ 0
  pub degree : r.degree ≡ degree (length leaves)
  pub size : r.size ≡ length leaves
  pub keys : r.keys ≡ first_keys (λ leaf. leaf.row.key) (drop 1 (parts leaves))

mutual
  -- the reference is the ideal subtree over these leaves, and its inner rows have bases above the
  -- given one; `rows` are these bases, top row first, then part by part
  pub data IsIdeal (ps : Pieces) : Ref → List PlacedLeaf → ℕ → List ℕ → Type 0 where
    of_none : {above : ℕ} → IsIdeal ps Empty [] above []
    of_one : {base above : ℕ} {leaf : PlacedLeaf} → leaf.base ≡ base
        → ps base ≡ Some (Leaf leaf.row)
        → IsIdeal ps (LeafAt base) (leaf ∷ []) above []
    of_more : {base above : ℕ} {leaves : List PlacedLeaf} {rows : List ℕ} (r : InnerRow)
        → IsTop ps base r leaves above
        → AreIdeal ps r.slots (parts leaves) base rows
        → IsIdeal ps (InnerAt base) leaves above (base ∷ rows)

  -- each word is the ideal subtree over its part
  pub data AreIdeal (ps : Pieces) : List ℕ → List (List PlacedLeaf) → ℕ → List ℕ → Type 0 where
    no_part : {above : ℕ} → AreIdeal ps [] [] above []
    one_part : {word above : ℕ} {words here rest : List ℕ} {part : List PlacedLeaf}
        {following : List (List PlacedLeaf)} (ref : Ref)
        → ref_of word ≡ Some ref → IsIdeal ps ref part above here
        → AreIdeal ps words following above rest
        → AreIdeal ps (word ∷ words) (part ∷ following) above (here ++ rest)
