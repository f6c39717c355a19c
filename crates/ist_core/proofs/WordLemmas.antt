-- How many words an ideal tree takes: against its shape, at most, and from two sizes of parts.
use Rattle.std.proofs.Common.{◌≡◌, ◌∙◌, ℕ, zero, suc, ◌+◌, ◌-◌, ◌*◌, ◌<◌, ◌≤◌, List, [], ◌∷◌, map, ⊎_elim, refl, sym, ap, arith, lit≤, mul-le-mul_left, ◌^◌, max}
use Rattle.std.proofs.lemmas.Bool.{cases_lt}
use Rattle.std.proofs.lemmas.List.Sums.{sum_by-cons, sum_by-append}
use Rattle.std.specs.List.{sum, sum_by, flat_map, range_with_len, fold}
use Rattle.ist_core.specs.WordTerms.{root_up_to, square_root, degree, part_len, part_lens, inner_words, ideal_words_within, ideal_words, shape_within, shape, depth_within, depth}
use Rattle.ist_core.proofs.RootLemmas.{least_degree-le}
use Rattle.ist_core.proofs.PartLemmas.{part_len-pos, part_len-lt, sum-part_lens, sum_by-part_lens, sum_of_more, part_len-short, part_len-le}
use Rattle.ist_core.proofs.ShapeLemmas.{sum_parts_same, ideal_words_many, shape_many, depth_many}

-- ---- against the shape

-- the sum of joined lists
sum-flat_map : (h : ℕ → List ℕ) (xs : List ℕ) → sum (flat_map h xs) ≡ sum_by (λ x. sum (h x)) xs
sum-flat_map h [] = refl
sum-flat_map h (x ∷ xs) = sum_by-append (λ y. y) (h x) (flat_map h xs)
    ∙ ap (λ k. sum (h x) + k) (sum-flat_map h xs) ∙ sym (sum_by-cons (λ y. sum (h y)) x xs)

-- a sum of twice each number and something more is twice the sum and the sum of the rest
sum_by_twice_and : (g : ℕ → ℕ) (xs : List ℕ)
    → sum_by (λ x. 2 * x + g x) xs ≡ 2 * sum xs + sum_by g xs
sum_by_twice_and g [] = refl
sum_by_twice_and g (x ∷ xs) = let whole = sum_by-cons (λ y. 2 * y + g y) x xs in
    let numbers = sum_by-cons (λ y. y) x xs in let others = sum_by-cons g x xs in
    omega (arith, sum_by_twice_and g xs)

-- the same as `ideal_words_is`, of at most `top` keys
words_up_to : (top n : ℕ) → n ≤ top → ideal_words n ≡ 2 * n + sum (shape n)
unfolding ideal_words ideal_words_within shape shape_within
words_up_to top zero h = refl
words_up_to top (suc zero) h = refl
words_up_to zero (suc (suc m)) h = absurd (omega arith)
words_up_to (suc top) (suc (suc m)) h = many (suc (suc m)) (omega arith)
    (λ j. let l = part_len-lt (suc (suc m)) j (omega arith) in
    words_up_to top (part_len (suc (suc m)) j) (omega arith))
  where
    many : (n : ℕ) → 2 ≤ n
        → ((j : ℕ) → ideal_words (part_len n j) ≡ 2 * part_len n j + sum (shape (part_len n j)))
        → ideal_words n ≡ 2 * n + sum (shape n)
    many n k parts = let below = sum_parts_same ideal_words (λ x. 2 * x + sum (shape x)) n parts in
        let leaves = sum_by_twice_and (λ x. sum (shape x)) (part_lens n) in
        let lower_rows = sum-flat_map shape (part_lens n) in
        let rows =
        ap sum (shape_many n k)
        ∙ sum_by-cons (λ x. x) (inner_words (degree n)) (flat_map shape (part_lens n)) in
        omega (arith, ideal_words_many n k, sum-part_lens n)

-- an ideal tree takes two words for each leaf, and its inner rows
pub ideal_words_is : (n : ℕ) → ideal_words n ≡ 2 * n + sum (shape n)
ideal_words_is n = words_up_to n n (omega arith)

-- ---- at most

-- if each part takes at most 9 words a key less 7, all parts take at most 9 words a key less 7 for
-- each part
sum_parts-le : (g : ℕ → ℕ) (n : ℕ) → ((j : ℕ) → g (part_len n j) + 7 ≤ 9 * part_len n j)
    → sum_by g (part_lens n) + 7 * degree n ≤ 9 * n
unfolding part_lens
sum_parts-le g n each = let all = over (degree n) in omega (arith, sum-part_lens n)
  where
    over : (k : ℕ) → sum_by g (map (part_len n) (range_with_len 0 k)) + 7 * k
        ≤ 9 * sum (map (part_len n) (range_with_len 0 k))
    over zero = omega arith
    over (suc k) = let words = sum_of_more g n k in let keys = sum_of_more (λ x. x) n k in
        omega (arith, over k, each k)

-- the same as `ideal_words-le`, of at most `top` keys
words_bound_up_to : (top n : ℕ) → n ≤ top → 1 ≤ n → ideal_words n + 7 ≤ 9 * n
unfolding ideal_words ideal_words_within
words_bound_up_to top zero h k = absurd (omega arith)
words_bound_up_to top (suc zero) h k = lit≤ tt
words_bound_up_to zero (suc (suc m)) h k = absurd (omega arith)
words_bound_up_to (suc top) (suc (suc m)) h k = many (suc (suc m)) (omega arith)
    (λ j. let l = part_len-lt (suc (suc m)) j (omega arith) in
    let p = part_len-pos (suc (suc m)) j (omega arith) in
    words_bound_up_to top (part_len (suc (suc m)) j) (omega arith) p)
  where
    many : (n : ℕ) → 2 ≤ n → ((j : ℕ) → ideal_words (part_len n j) + 7 ≤ 9 * part_len n j)
        → ideal_words n + 7 ≤ 9 * n
    many n l parts = grind (arith, sum_parts-le, ideal_words_many, least_degree-le)

-- an ideal tree takes at least 7 words less than nine a key
pub ideal_words-le : (n : ℕ) → 1 ≤ n → ideal_words n + 7 ≤ 9 * n
ideal_words-le n h = words_bound_up_to n n (omega arith) h

-- ---- the smallest trees

-- a tree of no key has no words
pub ideal_words_none : ideal_words 0 ≡ 0
unfolding ideal_words ideal_words_within
ideal_words_none = refl

-- a tree of one key has a leaf's words
pub ideal_words_one : ideal_words 1 ≡ 2
unfolding ideal_words ideal_words_within
ideal_words_one = refl

-- a tree of two keys has the words of a pair row and two leaves
pub ideal_words_two : ideal_words 2 ≡ 11
unfolding ideal_words ideal_words_within part_lens part_len degree square_root root_up_to
ideal_words_two = refl

-- an ideal tree takes at most nine words a key, also for no key
pub ideal_words_nine : (n : ℕ) → ideal_words n ≤ 9 * n
ideal_words_nine zero = omega (arith, ideal_words_none)
ideal_words_nine (suc n) = omega (arith, ideal_words-le (suc n))

-- ---- from two sizes of parts

-- the words of d parts, of which `longer` have p + 1 keys and the others p
unfoldable pub mixed_words : ℕ → ℕ → ℕ → ℕ
mixed_words d longer p = longer * ideal_words (p + 1) + (d - longer) * ideal_words p

-- d longer parts of p keys are d shorter parts of p + 1 keys
mixed_words_turned : (d p : ℕ) → mixed_words d 0 (p + 1) ≡ mixed_words d d p
unfolding mixed_words
mixed_words_turned d p = grind arith

-- d parts of q keys, of which r have one more, are parts of p and p + 1 keys if that fits
mixed_words_same : (n d q r p : ℕ) → d * q + r ≡ n → r < d → d * p ≤ n → n ≤ d * (p + 1)
    → mixed_words d r q ≡ mixed_words d (n - d * p) p
mixed_words_same n d q r p e f a b = ⊎_elim below above (cases_lt q (p + 1))
  where
    below : q < p + 1 → mixed_words d r q ≡ mixed_words d (n - d * p) p
    below y =
        let lower : p ≤ q = ⊎_elim
        (λ (z : q < p).
        let k = mul-le-mul_left d (let x : q + 1 ≤ p = omega arith in x) in
        absurd (omega arith))
        (λ (z : p ≤ q). z) (cases_lt q p) in
        let same : q ≡ p = omega arith in let k = ap (λ x. d * x) same in
        let longer : r ≡ n - d * p = omega arith in
        ap (λ x. mixed_words d r x) same ∙ ap (λ x. mixed_words d x p) longer

    above : p + 1 ≤ q → mixed_words d r q ≡ mixed_words d (n - d * p) p
    above y = let k = mul-le-mul_left d y in let none : r ≡ 0 = omega arith in
        let all : d ≡ n - d * p = omega arith in
        let same : q ≡ p + 1 = ⊎_elim
        (λ (z : p + 1 < q).
        let l = mul-le-mul_left d (let x : p + 2 ≤ q = omega arith in x) in
        absurd (omega arith))
        (λ (z : q ≤ p + 1). omega arith) (cases_lt (p + 1) q) in
        ap (λ x. mixed_words d x q) none
        ∙ ap (λ x. mixed_words d 0 x) same
        ∙ mixed_words_turned d p
        ∙ ap (λ x. mixed_words d x p) all

-- the words of a node whose parts have p or p + 1 keys
pub ideal_words_by_two : (n p : ℕ) → 2 ≤ n → degree n * p ≤ n → n ≤ degree n * (p + 1)
    → ideal_words n ≡ inner_words (degree n) + mixed_words (degree n) (n - degree n * p) p
unfolding mixed_words
ideal_words_by_two n p h k l =
    grind (arith, least_degree-le, ideal_words_many, sum_by-part_lens, mixed_words_same)

-- ---- how deep an ideal tree is: by how few keys the parts of the parts have.

-- a tree of at most `keys` keys is at most `levels` deep
abbrev IsShallow : ℕ → ℕ → Type 0
IsShallow keys levels = (n : ℕ) → n ≤ keys → depth n ≤ levels

-- a leaf has no inner row above it
shallow_leaf : IsShallow 1 0
unfolding depth depth_within
shallow_leaf zero h = lit≤ tt
shallow_leaf (suc zero) h = lit≤ tt
shallow_leaf (suc (suc m)) h = absurd (omega arith)

-- a node is one level deeper than its parts, of which each is small enough
depth_step : (n keys levels : ℕ) → IsShallow keys levels
    → ((j : ℕ) → 2 ≤ n → part_len n j ≤ keys) → depth n ≤ suc levels
unfolding part_lens
depth_step n keys levels shallow small = ⊎_elim few many (cases_lt n 2)
  where
    few : n < 2 → depth n ≤ suc levels
    few h = let none = shallow_leaf n (omega arith) in omega arith

    deepest : (a : ℕ) (js : List ℕ) → 2 ≤ n → a ≤ levels
        → fold max a (map depth (map (part_len n) js)) ≤ levels
    deepest a [] h l = l
    deepest a (j ∷ js) h l = let one = shallow (part_len n j) (small j h) in
        deepest (max a (depth (part_len n j))) js h (omega arith)

    many : 2 ≤ n → depth n ≤ suc levels
    many h = grind (arith, deepest, depth_many)

-- a number whose next square is above the keys bounds the parts, and so a tree one level deeper
deeper : (root keys levels : ℕ) → 2 ≤ root → root + 2 ≤ keys → IsShallow keys levels
    → (n : ℕ) → n < (root + 1) * (root + 1) → depth n ≤ suc levels
deeper root keys levels h k shallow n l = depth_step n keys levels shallow
    (λ j m. let part = part_len-le n j root m h l in omega arith)

shallow_2 : IsShallow 2 1
shallow_2 n h = depth_step n 1 0 shallow_leaf (λ j k. omega (arith, part_len-lt n j k))

-- the parts of four keys have two each
part_of_four : (j : ℕ) → part_len 4 j ≡ 2
unfolding part_len degree square_root root_up_to
part_of_four j = part_len-short 4 j (omega arith)

shallow_4 : IsShallow 4 2
shallow_4 n h = depth_step n 2 1 shallow_2 small
  where
    small : (j : ℕ) → 2 ≤ n → part_len n j ≤ 2
    small j k = ⊎_elim (λ (y : n < 4). omega (arith, part_len-lt n j k))
        (λ (y : 4 ≤ n).
        let same = ap (λ m. part_len m j) (let e : n ≡ 4 = omega arith in e) in
        omega (arith, part_of_four j))
        (cases_lt n 4)

shallow_8 : IsShallow 8 3
shallow_8 n h = deeper 2 4 2 (lit≤ tt) (lit≤ tt) shallow_4 n (omega arith)

shallow_24 : IsShallow 24 4
shallow_24 n h = deeper 4 8 3 (lit≤ tt) (lit≤ tt) shallow_8 n (omega arith)

shallow_288 : IsShallow 288 5
shallow_288 n h = deeper 16 24 4 (lit≤ tt) (lit≤ tt) shallow_24 n (omega arith)

shallow_66048 : IsShallow 66048 6
shallow_66048 n h = deeper 256 288 5 (lit≤ tt) (lit≤ tt) shallow_288 n (omega arith)

-- a path of an ideal tree of fewer than 2 ^ 32 keys has at most seven inner rows
pub depth-le : (n : ℕ) → n < 2 ^ 32 → depth n ≤ 7
depth-le n h = deeper 65535 66048 6 (lit≤ tt) (lit≤ tt) shallow_66048 n (omega arith)
