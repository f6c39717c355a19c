-- A new table's rows, part by part. Serves `laying.rt`.
use Rattle.std.proofs.Common.{◌≡◌, ◌∙◌, ◌+◌, ◌-◌, ◌<◌, ◌≤◌, ℕ, zero, suc, List, [], ◌∷◌, ◌++◌, length, map, take, drop, zip, get_or, refl, sym, ap, arith, length-take}
use Rattle.std.specs.List.{flat_map, range_with_len}
use Rattle.ist_core.specs.declared.pairs.Pair.{Pair}
use Rattle.ist_core.specs.WordTerms.{degree, part_len, part_lens, part_start, inner_words, ideal_words, cut, parts, first_keys, bases_from, placed_parts, top_row, rows_within, rows_from}
use Rattle.ist_core.proofs.AllWordLemmas.{least_degree-le, part_len-pos, part_len-lt, part_start-suc, part_end-le}
use Rattle.ist_image.specs.Placing.{part_of, words_before, part_base, rows_after}
use Rattle.ist_image.proofs.PlacingSizeLemmas.{words_before-suc}

-- ---- parts by their indices

drop_none : {A : Type 0} (n : ℕ) → drop {A = A} n [] ≡ []
drop_none zero = refl
drop_none (suc n) = refl

drop_twice : {A : Type 0} (m k : ℕ) (xs : List A) → drop k (drop m xs) ≡ drop (m + k) xs
drop_twice zero k xs = ap (λ n. drop n xs) (let e : k ≡ 0 + k = omega arith in e)
drop_twice (suc m) k [] = drop_none k ∙ sym (drop_none (suc m + k))
drop_twice (suc m) k (x ∷ xs) = let e : suc m + k ≡ suc (m + k) = omega arith in drop_twice m k xs
    ∙ sym (ap (λ n. drop n (x ∷ xs)) e)

-- a list cut into parts from part j on
cut_by_index : {A : Type 0} (n : ℕ) (xs : List A) (j k : ℕ)
    → cut (map (part_len n) (range_with_len j k)) (drop (part_start n j) xs)
    ≡ map (λ i. take (part_len n i) (drop (part_start n i) xs)) (range_with_len j k)
cut_by_index n xs j zero = refl
cut_by_index n xs j (suc k) =
    let next : part_start n j + part_len n j ≡ part_start n (j + 1) = sym (part_start-suc n j)
    ∙ ap (part_start n) (let e : suc j ≡ j + 1 = omega arith in e) in
    let here = take (part_len n j) (drop (part_start n j) xs) in
    ap (λ ys. here ∷ cut (map (part_len n) (range_with_len (j + 1) k)) ys)
    (drop_twice (part_start n j) (part_len n j) xs ∙ ap (λ m. drop m xs) next)
    ∙ ap (λ ps. here ∷ ps) (cut_by_index n xs (j + 1) k)

-- where the trees begin from part j on
bases_by_index : (n base j k : ℕ)
    → bases_from (base + words_before n j) (map (part_len n) (range_with_len j k))
    ≡ map (λ i. base + words_before n i) (range_with_len j k)
bases_by_index n base j zero = refl
bases_by_index n base j (suc k) = let more = words_before-suc n j in
    let next : base + words_before n j + ideal_words (part_len n j) ≡ base + words_before n
    (j + 1) = omega arith in
    ap (λ b. (base + words_before n j) ∷ bases_from b (map (part_len n) (range_with_len (j + 1) k)))
    next
    ∙ ap (λ bs. (base + words_before n j) ∷ bs) (bases_by_index n base (j + 1) k)

zip_by_index : {A B : Type 0} (f : ℕ → A) (g : ℕ → B) (js : List ℕ)
    → zip (map f js) (map g js) ≡ map (λ j. (f j, g j)) js
zip_by_index f g [] = refl
zip_by_index f g (j ∷ js) = ap (λ xs. (f j, g j) ∷ xs) (zip_by_index f g js)

-- the parts of a list
pub parts_by_index : {A : Type 0} (xs : List A)
    → parts xs ≡ map (λ i. take (part_len (length xs) i) (drop (part_start (length xs) i) xs))
    (range_with_len 0 (degree (length xs)))
unfolding part_lens part_start
parts_by_index xs = cut_by_index (length xs) xs 0 (degree (length xs))

-- the parts of pairs, with the bases of their trees
pub placed_by_index : (base : ℕ) (pairs : List Pair)
    → placed_parts base pairs ≡ map (λ i. (part_base base (length pairs) i, part_of pairs i))
    (range_with_len 0 (degree (length pairs)))
unfolding part_lens
placed_by_index base pairs = let n = length pairs in let from = base + inner_words (degree n) in
    let js = range_with_len 0 (degree n) in
    let begin : from ≡ from + words_before n 0 = omega arith in
    ap (λ b. zip (bases_from b (map (part_len n) js)) (parts pairs)) begin
    ∙ ap (λ bs. zip bs (parts pairs)) (bases_by_index n from 0 (degree n))
    ∙ ap (zip (map (λ i. from + words_before n i) js)) (parts_by_index pairs)
    ∙ zip_by_index (λ i. from + words_before n i) (part_of pairs) js

-- ---- rows by the indices of parts

joined_by_index : {A B : Type 0} (f : A → List B) (p : ℕ → A) (g : ℕ → List B)
    → ((i : ℕ) → f (p i) ≡ g i) → (js : List ℕ) → flat_map f (map p js) ≡ flat_map g js
joined_by_index f p g same [] = refl
joined_by_index f p g same (j ∷ js) =
    ap (λ xs. xs ++ flat_map f (map p js)) (same j) ∙ ap (λ xs. g j ++ xs)
    (joined_by_index f p g same js)

-- a part of two pairs or more has fewer pairs
pub fewer_in_part : (pairs : List Pair) (i : ℕ) → 2 ≤ length pairs
    → length (part_of pairs i) < length pairs
fewer_in_part pairs i two = let n = length pairs in let less = part_len-lt n i two in
    let most = length-take (part_len n i) (drop (part_start n i) pairs) in omega arith

-- one level per pair is enough
rows_enough : (f g base : ℕ) (pairs : List Pair) → length pairs ≤ f → length pairs ≤ g
    → rows_within f base pairs ≡ rows_within g base pairs
unfolding rows_within
rows_enough f g base [] h k = refl
rows_enough f g base (pair ∷ []) h k = refl
rows_enough zero g base (pair ∷ more ∷ pairs) h k = absurd (omega arith)
rows_enough (suc f) zero base (pair ∷ more ∷ pairs) h k = absurd (omega arith)
rows_enough (suc f) (suc g) base (pair ∷ more ∷ pairs) h k = let all = pair ∷ more ∷ pairs in
    let n = length all in let js = range_with_len 0 (degree n) in
    let placed = placed_by_index base all in
    let same = joined_by_index (λ (part : ℕ × List Pair). rows_within f part.0 part.1)
    (λ i. (part_base base n i, part_of all i)) (λ i. rows_within g (part_base base n i)
    (part_of all i))
    (λ i. let less = fewer_in_part all i (omega arith) in rows_enough f g (part_base base n i)
    (part_of all i) (omega arith) (omega arith)) js in
    let other = joined_by_index (λ (part : ℕ × List Pair). rows_within g part.0 part.1)
    (λ i. (part_base base n i, part_of all i)) (λ i. rows_within g (part_base base n i)
    (part_of all i)) (λ i. refl) js in
    ap (λ xs. (base, top_row base all) ∷ xs)
    (ap (flat_map (λ part. rows_within f part.0 part.1)) placed ∙ same ∙ sym other
    ∙ sym (ap (flat_map (λ part. rows_within g part.0 part.1)) placed))

-- the rows of at least two pairs: the top row, then the parts' rows
pub rows_from-many : (base : ℕ) (pairs : List Pair) → 2 ≤ length pairs
    → rows_from base pairs ≡ (base, top_row base pairs) ∷ rows_after base pairs 0
unfolding rows_within
rows_from-many base [] two = absurd (omega arith)
rows_from-many base (pair ∷ []) two = absurd (omega arith)
rows_from-many base (pair ∷ more ∷ pairs) two = let all = pair ∷ more ∷ pairs in
    let n = length all in let fuel = suc (length pairs) in
    let whole : degree n ≡ degree n - 0 = omega arith in ap (λ xs. (base, top_row base all) ∷ xs)
    (ap (flat_map (λ part. rows_within fuel part.0 part.1)) (placed_by_index base all)
    ∙ joined_by_index (λ (part : ℕ × List Pair). rows_within fuel part.0 part.1)
    (λ i. (part_base base n i, part_of all i)) (λ i. rows_from (part_base base n i)
    (part_of all i))
    (λ i. let less = fewer_in_part all i (omega arith) in rows_enough fuel (length (part_of all i))
    (part_base base n i) (part_of all i) (omega arith) (omega arith))
    (range_with_len 0 (degree n))
    ∙ ap (λ d. flat_map (λ i. rows_from (part_base base n i) (part_of all i)) (range_with_len 0 d))
    whole)

-- the rows from one part on
pub rows_after-first : (base : ℕ) (pairs : List Pair) (j : ℕ) → j < degree (length pairs)
    → rows_after base pairs j ≡ rows_from (part_base base (length pairs) j) (part_of pairs j) ++
    rows_after base pairs (j + 1)
rows_after-first base pairs j h = grind arith

-- there are no rows after the last part
pub rows_after-last : (base : ℕ) (pairs : List Pair)
    → rows_after base pairs (degree (length pairs)) ≡ []
rows_after-last base pairs = grind arith

-- ---- first keys

first_key : {A : Type 0} (key : A → ℕ) (len s : ℕ) (xs : List A) (following : List (List A)) → 1 ≤ len
    → s < length xs
    → first_keys key (take len (drop s xs) ∷ following) ≡ get_or (map key xs) s 0 ∷ first_keys key
    following
first_key key zero s xs following one h = absurd (omega arith)
first_key key (suc len) s [] following one h = absurd (omega arith)
first_key key (suc len) zero (x ∷ xs) following one h = refl
first_key key (suc len) (suc s) (x ∷ xs) following one h = first_key key (suc len) s xs following one
    (omega arith)

keys_by_index : {A : Type 0} (key : A → ℕ) (xs : List A) (j k : ℕ) → 2 ≤ length xs
    → j + k ≤ degree (length xs)
    → first_keys key (map (λ i. take (part_len (length xs) i) (drop (part_start (length xs) i) xs))
    (range_with_len j k))
    ≡ map (λ i. get_or (map key xs) (part_start (length xs) i) 0) (range_with_len j k)
keys_by_index key xs j zero two h = refl
keys_by_index key xs j (suc k) two h = let n = length xs in let some = part_len-pos n j two in
    let end = part_end-le n j (omega arith) in first_key key (part_len n j) (part_start n j) xs
    (map (λ i. take (part_len n i) (drop (part_start n i) xs)) (range_with_len (j + 1) k)) some
    (omega arith)
    ∙ ap (λ ks. get_or (map key xs) (part_start n j) 0 ∷ ks) (keys_by_index key xs (j + 1) k two
    (omega arith))

-- the first keys of all parts but the first
pub keys_of_parts_are : {A : Type 0} (key : A → ℕ) (xs : List A) → 2 ≤ length xs
    → map (λ i. get_or (map key xs) (part_start (length xs) i) 0)
    (range_with_len 1 (degree (length xs) - 1)) ≡ first_keys key (drop 1 (parts xs))
keys_of_parts_are key xs two = let n = length xs in let least = least_degree-le n in
    let one : degree n ≡ suc (degree n - 1) = omega arith in
    let P = λ (i : ℕ). take (part_len n i) (drop (part_start n i) xs) in
    sym (
    ap (λ ps. first_keys key (drop 1 ps)) (parts_by_index xs)
    ∙ ap (λ d. first_keys key (drop 1 (map P (range_with_len 0 d)))) one
    ∙ keys_by_index key xs 1 (degree n - 1) two (omega arith)
    )

-- the key of an element
pub key_at : {A : Type 0} (key : A → ℕ) (xs : List A) (s : ℕ) (default : A) → s < length xs
    → key (get_or xs s default) ≡ get_or (map key xs) s 0
key_at key [] s default h = absurd (omega arith)
key_at key (y ∷ ys) zero default h = refl
key_at key (y ∷ ys) (suc s) default h = key_at key ys s default (omega arith)
