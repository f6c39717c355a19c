-- The rows of a new table lie one after another. Serves `laws.rows_lie_apart`.
use Rattle.std.proofs.Common.{◌≡◌, ◌≢◌, ℕ, zero, suc, ◌+◌, ◌<◌, ◌≤◌, ◌⊎◌, List, [], ◌∷◌, ◌++◌, length, take, drop, map, zip, refl, sym, ap, ◌∙◌, subst, inl, inr, arith, length-drop, length-append}
use Rattle.std.specs.List.{sum, sum_by, flat_map, range_with_len}
use Rattle.std.proofs.lemmas.List.{length-take-le, length-map}
use Rattle.std.proofs.lemmas.List.Sums.{sum_by-cons}
use Rattle.std.proofs.lemmas.List.FromFn.{length-map-range_with_len}
use Rattle.ist_core.specs.Types.{Pair}
use Rattle.ist_core.specs.WordTerms.{degree, part_len, part_lens, inner_words, ideal_words, cut, parts, first_keys, Piece, size_of, word_of, tree_at, bases_from, placed_parts, top_row, rows_within}
use Rattle.ist_core.specs.LogTerms.{Among, Each}
use Rattle.ist_core.proofs.RootLemmas.{least_degree-le}
use Rattle.ist_core.proofs.ShapeLemmas.{ideal_words_many}
use Rattle.ist_core.proofs.PartLemmas.{sum-part_lens, part_len-lt, part_len-pos}
use Rattle.ist_core.proofs.WordLemmas.{ideal_words_none, ideal_words_one}

-- the rows lie one after another, and fill the words from the first place to the second
abbrev pub FillWords : ℕ → List (ℕ × Piece) → ℕ → Type 0
FillWords from [] to = from ≡ to
FillWords from (row ∷ rows) to = (row.0 ≡ from) × FillWords (from + size_of row.1) rows to

-- rows that fill two adjoining ranges fill both together
fills_append : (from mid to : ℕ) (xs ys : List (ℕ × Piece)) → FillWords from xs mid → FillWords mid ys to
    → FillWords from (xs ++ ys) to
fills_append from mid to [] ys h k = subst (λ n. FillWords n ys to) (sym h) k
fills_append from mid to (x ∷ xs) ys h k =
    (h.0, fills_append (from + size_of x.1) mid to xs ys h.1 k)

-- rows don't end below their first place
fills_le : (from to : ℕ) (xs : List (ℕ × Piece)) → FillWords from xs to → from ≤ to
fills_le from to [] h = omega arith
fills_le from to (x ∷ xs) h = let rest = fills_le (from + size_of x.1) to xs h.1 in omega arith

-- each of these rows lies between the two places
pub fills_within : (from to : ℕ) (xs : List (ℕ × Piece)) (base : ℕ) (p : Piece) → FillWords from xs to
    → Among (base, p) xs → (from ≤ base) × (base + size_of p ≤ to)
fills_within from to [] base p h i = absurd i
fills_within from to (x ∷ xs) base p h (inl e) = grind (arith, fills_le)
fills_within from to (x ∷ xs) base p h (inr i) =
    let rest = fills_within (from + size_of x.1) to xs base p h.1 i in let low = rest.0 in
    (omega arith, rest.1)

-- two of these rows at different bases share no word
pub fills_apart : (from to : ℕ) (xs : List (ℕ × Piece)) (base other : ℕ) (p q : Piece)
    → FillWords from xs to → Among (base, p) xs → Among (other, q) xs → base ≢ other
    → (base + size_of p ≤ other) ⊎ (other + size_of q ≤ base)
fills_apart from to [] base other p q h i j differ = absurd i
fills_apart from to (x ∷ xs) base other p q h (inl e) (inl f) differ = grind arith
fills_apart from to (x ∷ xs) base other p q h (inl e) (inr j) differ =
    let rest = fills_within (from + size_of x.1) to xs other q h.1 j in let low = rest.0 in
    let first = h.0 in let here : base ≡ x.0 = ap (λ y. y.0) e in
    let size : size_of p ≡ size_of x.1 = ap (λ y. size_of y.1) e in inl (omega arith)
fills_apart from to (x ∷ xs) base other p q h (inr i) (inl f) differ =
    let rest = fills_within (from + size_of x.1) to xs base p h.1 i in let low = rest.0 in
    let first = h.0 in let here : other ≡ x.0 = ap (λ y. y.0) f in
    let size : size_of q ≡ size_of x.1 = ap (λ y. size_of y.1) f in inr (omega arith)
fills_apart from to (x ∷ xs) base other p q h (inr i) (inr j) differ = fills_apart
    (from + size_of x.1) to xs base other p q h.1 i j differ

-- ---- the size of a top row

-- none of the numbers is 0
abbrev pub AllSome : List ℕ → Type 0
AllSome ns = Each (λ n. 0 < n) ns

pub length-cut : {A : Type 0} (ns : List ℕ) (xs : List A) → length (cut ns xs) ≡ length ns
length-cut [] xs = refl
length-cut (n ∷ ns) xs = omega (arith, length-cut ns (drop n xs))

length-bases_from : (base : ℕ) (ns : List ℕ) → length (bases_from base ns) ≡ length ns
length-bases_from base [] = refl
length-bases_from base (n ∷ ns) = omega (arith, length-bases_from (base + ideal_words n) ns)

length_zipped : {A B : Type 0} (xs : List A) (ys : List B) → length xs ≡ length ys
    → length (zip xs ys) ≡ length xs
length_zipped [] ys e = refl
length_zipped (x ∷ xs) [] e = absurd (omega arith)
length_zipped (x ∷ xs) (y ∷ ys) e = let rest = length_zipped xs ys (omega arith) in omega arith

-- if no part is empty, there is one first key for each part
length-first_keys : {A : Type 0} (key : A → ℕ) (ns : List ℕ) (xs : List A) → AllSome ns
    → sum ns ≤ length xs → length (first_keys key (cut ns xs)) ≡ length ns
length-first_keys key [] xs some fits = refl
length-first_keys key (zero ∷ ns) xs some fits = let none = some.0 in absurd (omega arith)
length-first_keys key (suc n ∷ ns) [] some fits = let all = sum_by-cons (λ x. x) (suc n) ns in
    absurd (omega arith)
length-first_keys key (suc n ∷ ns) (x ∷ xs) some fits = let all = sum_by-cons (λ x. x) (suc n) ns in
    let less = length-drop (suc n) (x ∷ xs) in
    let rest = length-first_keys key ns (drop (suc n) (x ∷ xs)) some.1 (omega arith) in omega arith

-- there is one first key for each part but the first
keys_after_first : {A : Type 0} (key : A → ℕ) (ns : List ℕ) (xs : List A) → AllSome ns
    → sum ns ≤ length xs → 1 ≤ length ns
    → length (first_keys key (drop 1 (cut ns xs))) + 1 ≡ length ns
keys_after_first key [] xs some fits one = absurd (omega arith)
keys_after_first key (n ∷ ns) xs some fits one = let all = sum_by-cons (λ x. x) n ns in
    let less = length-drop n xs in
    let rest = length-first_keys key ns (drop n xs) some.1 (omega arith) in omega arith

mapped_some : (n : ℕ) (js : List ℕ) → 2 ≤ n → AllSome (map (part_len n) js)
mapped_some n [] h = tt
mapped_some n (j ∷ js) h = let one = part_len-pos n j h in (omega arith, mapped_some n js h)

-- no part of two elements or more is empty
pub part_lens_some : (n : ℕ) → 2 ≤ n → AllSome (part_lens n)
unfolding part_lens
part_lens_some n h = mapped_some n (range_with_len 0 (degree n)) h

-- there is one length for each child
pub length-part_lens : (n : ℕ) → length (part_lens n) ≡ degree n
unfolding part_lens
length-part_lens n = length-map-range_with_len (part_len n) 0 (degree n)

-- a list of two or more has one key less than parts
pub keys_of_parts : {A : Type 0} (key : A → ℕ) (xs : List A) → 2 ≤ length xs
    → length (first_keys key (drop 1 (parts xs))) + 1 ≡ degree (length xs)
keys_of_parts key xs two =
    grind (
      arith,
      length-part_lens,
      keys_after_first,
      part_lens_some,
      sum-part_lens,
      least_degree-le,
    )

-- the number of parts is the degree
pub length-parts : {A : Type 0} (xs : List A) → length (parts xs) ≡ degree (length xs)
length-parts xs = length-cut (part_lens (length xs)) xs ∙ length-part_lens (length xs)

-- the number of a top row's slots is the degree
pub slots_of-top_row : (base : ℕ) (pairs : List Pair)
    → length (map (λ part. word_of (tree_at part.0 part.1)) (placed_parts base pairs)) ≡ degree
    (length pairs)
slots_of-top_row base pairs =
    grind (arith, length-part_lens, length-bases_from, length-cut, length_zipped, length-map)

-- the number of a top row's words follows from the degree
size_of-top_row : (base : ℕ) (pairs : List Pair) → 2 ≤ length pairs
    → size_of (top_row base pairs) ≡ inner_words (degree (length pairs))
size_of-top_row base pairs two = let keys = keys_of_parts (λ pair. pair.key) pairs two in
    let slots = slots_of-top_row base pairs in
    let both = length-append (first_keys (λ pair. pair.key) (drop 1 (parts pairs)))
    (map (λ part. word_of (tree_at part.0 part.1)) (placed_parts base pairs)) in
    omega arith

-- ---- all rows

-- the trees of the parts fill their words if each tree does
fills_parts : (fuel from : ℕ) (ns : List ℕ) (xs : List Pair) → sum ns ≤ length xs
    → ((n base : ℕ) (part : List Pair) → Among n ns → length part ≡ n → FillWords base
    (rows_within fuel base part) (base + ideal_words n))
    → FillWords from
    (flat_map (λ part. rows_within fuel part.0 part.1) (zip (bases_from from ns) (cut ns xs)))
    (from + sum_by ideal_words ns)
fills_parts fuel from [] xs fits each = omega arith
fills_parts fuel from (n ∷ ns) xs fits each = let all = sum_by-cons (λ x. x) n ns in
    let words = sum_by-cons ideal_words n ns in let less = length-drop n xs in
    let here = each n from (take n xs) (inl refl) (length-take-le n xs (omega arith)) in
    let rest = fills_parts fuel (from + ideal_words n) ns (drop n xs) (omega arith)
    (λ m base part i e. each m base part (inr i) e) in
    let end : from + ideal_words n + sum_by ideal_words ns ≡ from + sum_by ideal_words (n ∷ ns) =
    omega arith in
    let more = flat_map (λ part. rows_within fuel part.0 part.1)
    (zip (bases_from (from + ideal_words n) ns) (cut ns (drop n xs))) in
    fills_append from (from + ideal_words n) (from + sum_by ideal_words (n ∷ ns))
    (rows_within fuel from (take n xs)) more here
    (subst (λ to. FillWords (from + ideal_words n) more to) end rest)

-- the length of a part is one of the lengths
among_parts : (n x : ℕ) (js : List ℕ) → Among x (map (part_len n) js) → (j : ℕ) × (x ≡ part_len n j)
among_parts n x [] i = absurd i
among_parts n x (j ∷ js) (inl e) = (j, e)
among_parts n x (j ∷ js) (inr i) = among_parts n x js i

-- each length in the list is the length of some part
pub among_part_lens : (n x : ℕ) → Among x (part_lens n) → (j : ℕ) × (x ≡ part_len n j)
unfolding part_lens
among_part_lens n x i = among_parts n x (range_with_len 0 (degree n)) i

-- the rows of a tree fill its words
pub fills_rows : (fuel base : ℕ) (pairs : List Pair) → length pairs ≤ fuel
    → FillWords base (rows_within fuel base pairs) (base + ideal_words (length pairs))
unfolding rows_within
fills_rows fuel base [] h = let none = ideal_words_none in omega arith
fills_rows fuel base (pair ∷ []) h = let two = ideal_words_one in (refl, omega arith)
fills_rows zero base (pair ∷ more ∷ pairs) h = absurd (omega arith)
fills_rows (suc fuel) base (pair ∷ more ∷ pairs) h = let all = pair ∷ more ∷ pairs in
    let n = length all in let size = size_of-top_row base all (omega arith) in
    let from = base + inner_words (degree n) in let words = ideal_words_many n (omega arith) in
    let fits = sum-part_lens n in
    let parts_fill = fills_parts fuel from (part_lens n) all (omega arith)
    (λ m at part i e. let it = among_part_lens n m i in
    let less = part_len-lt n it.0 (omega arith) in let is = it.1 in
    subst (λ k. FillWords at (rows_within fuel at part) (at + ideal_words k)) e
    (fills_rows fuel at part (omega arith))) in
    let begin : from ≡ base + size_of (top_row base all) = omega arith in
    let end : from + sum_by ideal_words (part_lens n) ≡ base + ideal_words n = omega arith in
    let below = flat_map (λ part. rows_within fuel part.0 part.1) (placed_parts base all) in (
      refl,
      subst (λ a. FillWords a below (base + ideal_words n)) begin
          (subst (λ b. FillWords from below b) end parts_fill),
    )
