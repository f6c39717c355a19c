-- Ideal subtrees over rows that are added to others. Serves the law on ideal subtrees.
use Rattle.std.proofs.Common.{List, None, Some, [], refl, ap, subst, sym, ℕ, ◌∙◌, ◌∷◌, ◌++◌, ◌≡◌, arith}
use Rattle.std.proofs.lemmas.List.{map-append, append-nil}
use Rattle.ist_core.specs.declared.lists.Row.{Row}
use Rattle.ist_core.specs.declared.states.InnerRow.{InnerRow}
use Rattle.ist_core.specs.declared.states.LeafRow.{LeafRow}
use Rattle.ist_core.specs.LogTerms.{Among, bases_of}
use Rattle.ist_core.specs.WordTerms.{AreIdeal, IsIdeal, no_part, one_part, Inner, Leaf, Piece, Pieces, inner_of, with_inners, with_row, Ref, ref_of}
use Rattle.ist_core.specs.TreeTerms.{PlacedLeaf}
use Rattle.ist_core.proofs.AllWordLemmas.{among_left, with_inners-other, with_inners-some}
use Rattle.laws_links.proofs.NewTreeLemmas.{StandInOther, ideal_kept, parts_kept}
use Rattle.laws_stability.proofs.IdealLemmas.{put_or_stood}

-- ---- ideal subtrees elsewhere

module _ (ps qs : Pieces) (own : List ℕ)
    (leaf : (base : ℕ) (r : LeafRow) → ps base ≡ Some (Leaf r) → qs base ≡ Some (Leaf r))
    (inner : (base : ℕ) (r : InnerRow) → Among base own → ps base ≡ Some (Inner r)
    → qs base ≡ Some (Inner r)) where
  -- the leaves and the rows that are in the first are in the second
  stand : (bases : List ℕ) → ((base : ℕ) → Among base bases → Among base own)
      → StandInOther ps qs bases
  stand bases i = record { leaf = leaf; inner = λ base r j e. inner base r (i base j) e }

  -- an ideal subtree is one wherever its leaves and rows are
  pub ideal_over : (ref : Ref) (leaves : List PlacedLeaf) (above : ℕ) (bases : List ℕ)
      → IsIdeal ps ref leaves above bases → ((base : ℕ) → Among base bases → Among base own)
      → IsIdeal qs ref leaves above bases
  ideal_over ref leaves above bases ideal i = grind (arith, ideal_kept, stand)

  -- ideal parts are ideal wherever their leaves and rows are
  pub parts_over : (words : List ℕ) (following : List (List PlacedLeaf)) (above : ℕ) (bases : List ℕ)
      → AreIdeal ps words following above bases → ((base : ℕ) → Among base bases → Among base own)
      → AreIdeal qs words following above bases
  parts_over words following above bases are i = grind (arith, parts_kept, stand)

-- ideal parts with one more at the end are ideal parts
pub parts_more : (ps : Pieces) (words : List ℕ) (following : List (List PlacedLeaf)) (above : ℕ)
    (bases : List ℕ) (word : ℕ) (ref : Ref) (part : List PlacedLeaf) (more : List ℕ)
    → AreIdeal ps words following above bases → ref_of word ≡ Some ref
    → IsIdeal ps ref part above more
    → AreIdeal ps (words ++ word ∷ []) (following ++ part ∷ []) above (bases ++ more)
parts_more ps _ _ above _ word ref part more no_part is ideal =
    subst (AreIdeal ps (word ∷ []) (part ∷ []) above) (append-nil more) (one_part ref is ideal no_part)
parts_more ps _ _ above _ word ref part more
    (one_part {words = words} {here = here} {rest = rest} {part = first} {following = following} r e i
    others) is ideal =
    subst (AreIdeal ps _ _ above) (assoc here rest more)
    (one_part r e i (parts_more ps words following above rest word ref part more others is ideal))
  where
    assoc : (xs ys zs : List ℕ) → xs ++ (ys ++ zs) ≡ (xs ++ ys) ++ zs
    assoc [] ys zs = refl
    assoc (x ∷ xs) ys zs = ap (λ w. x ∷ w) (assoc xs ys zs)

-- ---- rows that are put

-- an inner row is no leaf
no_leaf : (words : List ℕ) (r : LeafRow) → inner_of words ≡ Some (Leaf r) → ⊥
no_leaf [] r e = cc
no_leaf (a ∷ []) r e = cc
no_leaf (a ∷ b ∷ []) r e = cc
no_leaf (a ∷ b ∷ c ∷ []) r e = cc
no_leaf (a ∷ b ∷ c ∷ d ∷ rest) r e = cc

-- a leaf after rows are put was there before
pub leaf_stood : (ps : Pieces) (rows : List Row) (base : ℕ) (r : LeafRow)
    → with_inners ps rows base ≡ Some (Leaf r) → ps base ≡ Some (Leaf r)
leaf_stood ps rows base r e = grind (arith, no_leaf, with_inners-some)

-- putting joined lists of rows puts the second and then the first
pub with_both : (ps : Pieces) (xs ys : List Row)
    → with_inners ps (xs ++ ys) ≡ with_inners (with_inners ps ys) xs
with_both ps [] ys = refl
with_both ps (x ∷ xs) ys = ap (λ qs. with_row qs x.base (inner_of x.words)) (with_both ps xs ys)

-- a row that is put at a free base is also there if the rows are put among others
pub put_stands : (ps qs : Pieces) (rows : List Row) (base : ℕ) (p : Piece)
    → ps base ≡ None → with_inners ps rows base ≡ Some p → with_inners qs rows base ≡ Some p
put_stands ps qs rows base p none e = grind (arith, put_or_stood)

-- ---- two lists of rows that share no base, put where no row was before

module _ (ps : Pieces) (xs ys : List Row)
    (free : (base : ℕ) → Among base (bases_of (xs ++ ys)) → ps base ≡ None)
    (apart : (base : ℕ) → Among base (bases_of xs) → ¬ (Among base (bases_of ys))) where
  bases_both : bases_of (xs ++ ys) ≡ bases_of xs ++ bases_of ys
  bases_both = map-append (λ (row : Row). row.base) xs ys

  left_free : (base : ℕ) → Among base (bases_of xs) → ps base ≡ None
  left_free base i = grind (arith, bases_both, among_left)

  leaf_beside : (base : ℕ) (r : LeafRow) → ps base ≡ Some (Leaf r)
      → with_inners ps (xs ++ ys) base ≡ Some (Leaf r)
  leaf_beside base r e = grind (arith, with_inners-other)

  -- a leaf after the first rows are put is there after both lists are
  pub left_leaf : (base : ℕ) (r : LeafRow) → with_inners ps xs base ≡ Some (Leaf r)
      → with_inners ps (xs ++ ys) base ≡ Some (Leaf r)
  left_leaf base r e = leaf_beside base r (leaf_stood ps xs base r e)

  -- a leaf after the second rows are put is there after both lists are
  pub right_leaf : (base : ℕ) (r : LeafRow) → with_inners ps ys base ≡ Some (Leaf r)
      → with_inners ps (xs ++ ys) base ≡ Some (Leaf r)
  right_leaf base r e = leaf_beside base r (leaf_stood ps ys base r e)

  -- an inner row of the first list is there after both lists are put
  pub left_inner : (base : ℕ) (r : InnerRow) → Among base (bases_of xs)
      → with_inners ps xs base ≡ Some (Inner r) → with_inners ps (xs ++ ys) base ≡ Some (Inner r)
  left_inner base r i e = grind (arith, with_both, put_stands, left_free)

  -- an inner row of the second list is there after both lists are put
  pub right_inner : (base : ℕ) (r : InnerRow) → Among base (bases_of ys)
      → with_inners ps ys base ≡ Some (Inner r) → with_inners ps (xs ++ ys) base ≡ Some (Inner r)
  right_inner base r i e = ap (λ qs. qs base) (with_both ps xs ys)
      ∙ with_inners-other (with_inners ps ys) xs base (λ j. apart base j i) ∙ e

  -- the parts of one and an ideal subtree of the other are parts of both
  pub parts_joined : (words : List ℕ) (following : List (List PlacedLeaf)) (above word : ℕ) (ref : Ref)
      (part : List PlacedLeaf)
      → AreIdeal (with_inners ps xs) words following above (bases_of xs) → ref_of word ≡ Some ref
      → IsIdeal (with_inners ps ys) ref part above (bases_of ys)
      → AreIdeal (with_inners ps (xs ++ ys)) (words ++ word ∷ []) (following ++ part ∷ []) above
      (bases_of (xs ++ ys))
  parts_joined words following above word ref part are is ideal =
      let qs = with_inners ps (xs ++ ys) in
      subst (AreIdeal qs (words ++ word ∷ []) (following ++ part ∷ []) above) (sym bases_both)
      (parts_more qs words following above (bases_of xs) word ref part (bases_of ys)
      (parts_over (with_inners ps xs) qs (bases_of xs) left_leaf left_inner words following above
      (bases_of xs) are (λ b i. i))
      is
      (ideal_over (with_inners ps ys) qs (bases_of ys) right_leaf right_inner ref part above
      (bases_of ys) ideal (λ b i. i)))
