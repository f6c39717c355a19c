-- The first parts, one more at a time. Serves the law on parts.
use Rattle.std.proofs.Common.{List, Some, [], ap, arith, drop, length, length-append, map, refl, slice_get, suc, sym, take, zero, ℕ, ⊎_elim, ◌++◌, ◌+◌, ◌<◌, ◌∙◌, ◌∷◌, ◌≡◌, ◌≤◌}
use Rattle.std.proofs.lemmas.Bool.{cases_lt}
use Rattle.std.proofs.lemmas.List.FromFn.{map-range_with_len_more}
use Rattle.std.proofs.lemmas.List.Sums.{sum_by-cons}
use Rattle.std.proofs.lemmas.List.{drop-drop}
use Rattle.std.specs.List.{range_with_len, sum}
use Rattle.ist_core.specs.WordTerms.{degree, part_len, part_lens, part_start, cut, first_keys, parts}
use Rattle.ist_core.specs.TreeTerms.{PlacedLeaf}
use Rattle.ist_core.proofs.AllWordLemmas.{length-cut}
use Rattle.laws_calls.specs.Dividing.{keys_of_parts, lens_to, share_of, parts_to}

-- ---- lengths

-- one part more
pub lens_more : (n j : ℕ) → lens_to n (j + 1) ≡ lens_to n j ++ part_len n j ∷ []
lens_more n j = map-range_with_len_more (part_len n) 0 j j (omega arith)

-- all parts
pub lens_all : (n : ℕ) → lens_to n (degree n) ≡ part_lens n
unfolding part_lens
lens_all n = refl

-- ---- pieces

-- a list cut into one piece more
cut_more : {A : Type 0} (ns : List ℕ) (m : ℕ) (xs : List A)
    → cut (ns ++ m ∷ []) xs ≡ cut ns xs ++ take m (drop (sum ns) xs) ∷ []
cut_more [] m xs = refl
cut_more (n ∷ ns) m xs =
    ap (λ ys. take n xs ∷ ys) (cut_more ns m (drop n xs)
    ∙ ap (λ ys. cut ns (drop n xs) ++ take m ys ∷ []) (drop-drop (sum ns) n xs
    ∙ ap (λ k. drop k xs) (sym (sum_by-cons (λ x. x) n ns))))

-- one part more
pub parts_next : (n j : ℕ) (leaves : List PlacedLeaf)
    → parts_to n (j + 1) leaves ≡ parts_to n j leaves ++ share_of n j leaves ∷ []
unfolding part_start
parts_next n j leaves = grind (arith, lens_more, cut_more)

-- the first `degree` parts are all parts
pub parts_all : (leaves : List PlacedLeaf)
    → parts_to (length leaves) (degree (length leaves)) leaves ≡ parts leaves
parts_all leaves = ap (λ ns. cut ns leaves) (lens_all (length leaves))

-- ---- keys

first_keys_more : {A : Type 0} (key : A → ℕ) (xs : List (List A)) (y : A) (ys : List A)
    → first_keys key (xs ++ (y ∷ ys) ∷ []) ≡ first_keys key xs ++ key y ∷ []
first_keys_more key [] y ys = refl
first_keys_more key ([] ∷ xs) y ys = first_keys_more key xs y ys
first_keys_more key ((z ∷ zs) ∷ xs) y ys = ap (λ ks. key z ∷ ks) (first_keys_more key xs y ys)

drop_first : {A : Type 0} (xs : List A) (y : A) → 1 ≤ length xs
    → drop 1 (xs ++ y ∷ []) ≡ drop 1 xs ++ y ∷ []
drop_first [] y some = absurd (omega arith)
drop_first (x ∷ xs) y some = refl

length-lens : (f : ℕ → ℕ) (a j : ℕ) → length (map f (range_with_len a j)) ≡ j
length-lens f a zero = refl
length-lens f a (suc j) = let rest = length-lens f (a + 1) j in omega arith

-- the keys of the first parts but one, with one part more
pub keys_next : (n j : ℕ) (leaves : List PlacedLeaf) (leaf : PlacedLeaf) (others : List PlacedLeaf)
    → 1 ≤ j → share_of n j leaves ≡ leaf ∷ others → keys_of_parts (parts_to n (j + 1) leaves)
    ≡ keys_of_parts (parts_to n j leaves) ++ leaf.row.key ∷ []
keys_next n j leaves leaf others some is =
    grind (arith, length-cut, length-lens, parts_next, drop_first, first_keys_more)

-- ---- one part

-- an element before the last
get_left : {A : Type 0} (xs : List A) (y : A) (i : ℕ) → i < length xs
    → slice_get (xs ++ y ∷ []) i ≡ slice_get xs i
get_left [] y i less = absurd (omega arith)
get_left (x ∷ xs) y zero less = refl
get_left (x ∷ xs) y (suc i) less = get_left xs y i (omega arith)

-- the last element
get_end : {A : Type 0} (xs : List A) (y : A) (i : ℕ) → i ≡ length xs
    → slice_get (xs ++ y ∷ []) i ≡ Some y
get_end [] y zero is = refl
get_end [] y (suc i) is = absurd (omega arith)
get_end (x ∷ xs) y zero is = absurd (omega arith)
get_end (x ∷ xs) y (suc i) is = get_end xs y i (omega arith)

-- how many parts there are
length-parts_to : (n j : ℕ) (leaves : List PlacedLeaf) → length (parts_to n j leaves) ≡ j
length-parts_to n zero leaves = refl
length-parts_to n (suc j) leaves = let rest = length-parts_to n j leaves in
    let more = length-append (parts_to n j leaves) (share_of n j leaves ∷ []) in
    ap (λ k. length (parts_to n k leaves)) (let q : suc j ≡ j + 1 = omega arith in q)
    ∙ ap length (parts_next n j leaves) ∙ omega arith

-- the share of child i is the part at i of the first parts
get_part : (n j i : ℕ) (leaves : List PlacedLeaf) → i < j
    → slice_get (parts_to n j leaves) i ≡ Some (share_of n i leaves)
get_part n zero i leaves less = absurd (omega arith)
get_part n (suc j) i leaves less =
    ap (λ k. slice_get (parts_to n k leaves) i) (let q : suc j ≡ j + 1 = omega arith in q)
    ∙ ap (λ xs. slice_get xs i) (parts_next n j leaves)
    ∙ (let long = length-parts_to n j leaves in ⊎_elim
    (λ (low : i < j). get_left (parts_to n j leaves) (share_of n j leaves) i (omega arith)
    ∙ get_part n j i leaves low)
    (λ (high : j ≤ i).
    grind (arith, get_end))
    (cases_lt i j))

-- the part of each child
pub part_is : (leaves : List PlacedLeaf) (i : ℕ) → i < degree (length leaves)
    → slice_get (parts leaves) i ≡ Some (share_of (length leaves) i leaves)
part_is leaves i less = ap (λ xs. slice_get xs i) (sym (parts_all leaves))
    ∙ get_part (length leaves) (degree (length leaves)) i leaves less
