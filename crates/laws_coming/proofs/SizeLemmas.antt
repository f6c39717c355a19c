-- The rows of a build have the sizes that its number of keys says. Serves `laws.builds_come`.
use Rattle.std.proofs.Common.{◌≡◌, ℕ, ◌<◌, ◌≤◌, List, [], ◌∷◌, ◌++◌, map, drop, length, Option, Some, None, refl, sym, ap, ap₂, ◌∙◌, subst, inl, inr, length-append, length-drop, arith}
use Rattle.std.specs.List.{sum, flat_map}
use Rattle.std.proofs.lemmas.List.{map-append, length-take-le}
use Rattle.std.proofs.lemmas.List.Concat.{flat_map-cons}
use Rattle.std.proofs.lemmas.List.Sums.{sum_by-cons}
use Rattle.ist_core.specs.declared.lists.Row.{Row}
use Rattle.ist_core.specs.declared.states.InnerRow.{InnerRow}
use Rattle.ist_core.specs.WordTerms.{degree, part_lens, inner_words, shape, share_from, cut, parts, Piece, Pieces, Inner, size_of, with_inners, Ref, IsTop, IsIdeal, AreIdeal, of_none, of_one, of_more, no_part, one_part}
use Rattle.ist_core.specs.LogTerms.{Among, Each, Distinct, bases_of, sizes_of}
use Rattle.ist_core.specs.TreeTerms.{PlacedLeaf, IsRoot, root_whole, root_top}
use Rattle.ist_core.proofs.AllWordLemmas.{sum-part_lens, shape_none, shape_one, shape_many}
use Rattle.ist_core.proofs.AllEventLemmas.{LiesAt, base_among, ideal_stands, publishes-with_inners}
use Rattle.ist_core.proofs.AllPlaceLemmas.{StandsShaped, ideal_shaped, root_shaped}

-- ---- the sizes of ideal subtrees

-- how many words the row has, if there is one
abbrev size_there : Option Piece → ℕ
size_there None = 0
size_there (Some p) = size_of p

-- the sizes of the rows at these bases
abbrev sizes_at : Pieces → List ℕ → List ℕ
sizes_at ps bases = map (λ base. size_there (ps base)) bases

-- an inner row that has its degree has the words of that degree
size_of_degree : (ps : Pieces) (base : ℕ) (s : StandsShaped ps base)
    → size_there (ps base) ≡ inner_words s.row.degree
size_of_degree ps base s = let both = length-append s.row.keys s.row.slots in
    let keys = s.shaped.keys in let slots = s.shaped.slots in
    let size : size_of (Inner s.row) ≡ inner_words s.row.degree = omega arith in
    ap size_there s.published ∙ size

same_degree : (ps : Pieces) (base : ℕ) (r s : InnerRow) → ps base ≡ Some (Inner r)
    → ps base ≡ Some (Inner s) → r.degree ≡ s.degree
same_degree ps base r s e f = let same : r ≡ s = cc in ap (λ x. x.degree) same

-- the top row of a subtree has the words of its degree
top_size : (ps : Pieces) (base : ℕ) (r : InnerRow) (leaves : List PlacedLeaf) (above : ℕ)
    → IsTop ps base r leaves above → StandsShaped ps base
    → size_there (ps base) ≡ inner_words (degree (length leaves))
top_size ps base r leaves above top s = size_of_degree ps base s
    ∙ ap inner_words (same_degree ps base s.row r s.published top.published ∙ top.degree)

-- the lengths of the pieces are those by which a list is cut
lengths_of_cut : {A : Type 0} (ns : List ℕ) (xs : List A) → sum ns ≤ length xs
    → map length (cut ns xs) ≡ ns
lengths_of_cut [] xs fits = refl
lengths_of_cut (n ∷ ns) xs fits = let all = sum_by-cons (λ x. x) n ns in
    let less = length-drop n xs in ap₂ (λ y ys. y ∷ ys) (length-take-le n xs (omega arith))
    (lengths_of_cut ns (drop n xs) (omega arith))

-- the lengths of the parts
pub lengths_of_parts : (leaves : List PlacedLeaf) → map length (parts leaves) ≡ part_lens (length leaves)
lengths_of_parts leaves = grind (arith, sum-part_lens, lengths_of_cut)

mutual
  -- the rows of an ideal subtree have the sizes of its shape
  pub ideal_sizes : (ps : Pieces) (ref : Ref) (leaves : List PlacedLeaf) (above : ℕ) (rows : List ℕ)
      → IsIdeal ps ref leaves above rows → sizes_at ps rows ≡ shape (length leaves)
  ideal_sizes ps _ _ _ _ of_none = sym shape_none
  ideal_sizes ps _ _ _ _ (of_one same e) = sym shape_one
  ideal_sizes ps _ _ above _ (of_more {base = base} {leaves = leaves} {rows = rows} r top below) =
      let first = (ideal_shaped ps _ leaves above _
      (of_more {base = base} {leaves = leaves} {rows = rows} r top below)).0 in
      ap₂ (λ y ys. y ∷ ys) (top_size ps base r leaves above top first)
      (parts_sizes ps r.slots (parts leaves) base rows below
      ∙ ap (flat_map shape) (lengths_of_parts leaves))
      ∙ sym (shape_many (length leaves) top.two)

  parts_sizes : (ps : Pieces) (words : List ℕ) (following : List (List PlacedLeaf)) (above : ℕ)
      (rows : List ℕ) → AreIdeal ps words following above rows
      → sizes_at ps rows ≡ flat_map shape (map length following)
  parts_sizes ps _ _ _ _ no_part = refl
  parts_sizes ps _ _ above _
      (one_part {words = words} {here = here} {rest = rest} {part = part} {following = following} ref e
      first more) =
      map-append (λ base. size_there (ps base)) here rest
      ∙ ap₂ (λ xs ys. xs ++ ys) (ideal_sizes ps ref part above here first)
      (parts_sizes ps words following above rest more)
      ∙ sym (flat_map-cons shape (length part) (map length following))

-- ---- the sizes of the rows that are published

-- two rows of one base are equal, if bases are distinct
one_row : (rows : List Row) → Distinct (bases_of rows) → (a b : Row) → Among a rows → Among b rows
    → a.base ≡ b.base → a ≡ b
one_row [] once a b i j same = absurd i
one_row (row ∷ rows) once a b (inl e) (inl f) same = e ∙ sym f
one_row (row ∷ rows) once a b (inl e) (inr j) same =
    absurd (once.0 (subst (λ x. Among x (bases_of rows)) (sym same ∙ ap (λ y. y.base) e)
    (base_among b rows j)))
one_row (row ∷ rows) once a b (inr i) (inl f) same =
    absurd (once.0 (subst (λ x. Among x (bases_of rows)) (same ∙ ap (λ y. y.base) f)
    (base_among a rows i)))
one_row (row ∷ rows) once a b (inr i) (inr j) same = one_row rows once.1 a b i j same

-- sizes that are so row by row are so
sizes_by : (qs : Pieces) (rows : List Row)
    → ((row : Row) → Among row rows → size_there (qs row.base) ≡ length row.words)
    → sizes_at qs (bases_of rows) ≡ sizes_of rows
sizes_by qs [] each = refl
sizes_by qs (row ∷ rows) each =
    ap₂ (λ y ys. y ∷ ys) (each row (inl refl)) (sizes_by qs rows (λ x i. each x (inr i)))

-- rows that are published on free bases have their words
pub published_sizes : (ps : Pieces) (rows : List Row) → Distinct (bases_of rows)
    → ((base : ℕ) → Among base (bases_of rows) → ps base ≡ None)
    → Each (λ base. LiesAt (with_inners ps rows) base) (bases_of rows)
    → sizes_at (with_inners ps rows) (bases_of rows) ≡ sizes_of rows
published_sizes ps rows once free all =
    grind (arith, publishes-with_inners, sizes_by, base_among, one_row)

-- ---- roots and parts

-- these are the sizes of the inner rows of a root over k keys
pub data IsRootSizes (k : ℕ) (sizes : List ℕ) : Type 0 where
  of_whole : k < share_from → sizes ≡ shape k → IsRootSizes k sizes
  of_top : share_from ≤ k → sizes ≡ inner_words (degree k) ∷ [] → IsRootSizes k sizes

-- two roots over as many keys have the same
pub root_sizes_once : (k : ℕ) (a b : List ℕ) → IsRootSizes k a → IsRootSizes k b → a ≡ b
root_sizes_once k a b (of_whole x e) (of_whole y f) = e ∙ sym f
root_sizes_once k a b (of_top x e) (of_top y f) = e ∙ sym f
root_sizes_once k a b (of_whole x e) (of_top y f) = absurd (omega arith)
root_sizes_once k a b (of_top x e) (of_whole y f) = absurd (omega arith)

-- the rows of a root have these sizes
pub root_sizes : (ps : Pieces) (rows : List Row) (word k : ℕ) (leaves : List PlacedLeaf)
    (target : ℕ) → Distinct (bases_of rows)
    → ((base : ℕ) → Among base (bases_of rows) → ps base ≡ None) → length leaves ≡ k
    → IsRoot (with_inners ps rows) word k leaves target (bases_of rows)
    → IsRootSizes k (sizes_of rows)
root_sizes ps rows word k leaves target once free many (root_whole ref few e ideal) =
    grind (arith, published_sizes, ideal_stands, ideal_sizes)
root_sizes ps rows word k leaves target once free many (root_top base row all e top unset one) =
    let qs = with_inners ps rows in
    let shaped : Each (StandsShaped qs) (base ∷ []) =
    subst (Each (StandsShaped qs)) one
    (root_shaped qs word k leaves target (bases_of rows) (root_top base row all e top unset one)) in
    let stands : Each (λ b. LiesAt qs b) (base ∷ []) = ((Inner row, top.published), tt) in
    of_top all
    (sym (published_sizes ps rows once free (subst (Each (λ b. LiesAt qs b)) (sym one) stands))
    ∙ ap (sizes_at qs) one
    ∙ ap (λ y. y ∷ []) (top_size qs base row leaves target top shaped.0 ∙ ap (λ n. inner_words
    (degree n)) many))
