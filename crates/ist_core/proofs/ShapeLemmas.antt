-- `ideal_words`, `shape` and `depth` of a node from the values of its parts.
use Rattle.std.proofs.Common.{◌≡◌, ◌∙◌, ℕ, zero, suc, ◌+◌, ◌<◌, ◌≤◌, max, List, [], ◌∷◌, ◌++◌, map, refl, sym, ap, arith}
use Rattle.std.proofs.lemmas.List.Sums.{sum-map}
use Rattle.std.specs.List.{sum, sum_by, flat_map, fold, range_with_len}
use Rattle.ist_core.specs.WordTerms.{degree, part_len, part_lens, inner_words, ideal_words_within, ideal_words, shape_within, shape, depth_within, depth}
use Rattle.ist_core.proofs.PartLemmas.{part_len-lt}

-- two functions give the same for each part of n keys
abbrev AgreeOnParts : {A : Type 0} → ℕ → (ℕ → A) → (ℕ → A) → Type 0
AgreeOnParts n f g = (j : ℕ) → f (part_len n j) ≡ g (part_len n j)

-- functions that agree on the parts give the same list
map_parts_same : {A : Type 0} (f g : ℕ → A) (n : ℕ) → AgreeOnParts n f g
    → map f (part_lens n) ≡ map g (part_lens n)
unfolding part_lens
map_parts_same {A} f g n same = each (range_with_len 0 (degree n))
  where
    each : (js : List ℕ) → map f (map (part_len n) js) ≡ map g (map (part_len n) js)
    each [] = refl
    each (j ∷ js) = ap (λ x. x ∷ map f (map (part_len n) js)) (same j)
        ∙ ap (λ xs. g (part_len n j) ∷ xs) (each js)

-- functions that agree on the parts have the same sum over them
pub sum_parts_same : (f g : ℕ → ℕ) (n : ℕ) → AgreeOnParts n f g
    → sum_by f (part_lens n) ≡ sum_by g (part_lens n)
sum_parts_same f g n same =
    sym (sum-map f (part_lens n)) ∙ ap sum (map_parts_same f g n same) ∙ sum-map g (part_lens n)

-- functions that agree on the parts have the same joined lists
join_parts_same : (f g : ℕ → List ℕ) (n : ℕ) → AgreeOnParts n f g
    → flat_map f (part_lens n) ≡ flat_map g (part_lens n)
unfolding part_lens
join_parts_same f g n same = each (range_with_len 0 (degree n))
  where
    each : (js : List ℕ) → flat_map f (map (part_len n) js) ≡ flat_map g (map (part_len n) js)
    each [] = refl
    each (j ∷ js) = ap (λ xs. xs ++ flat_map f (map (part_len n) js)) (same j)
        ∙ ap (λ xs. g (part_len n j) ++ xs) (each js)

-- ---- one level per key is enough: fuel above the size changes nothing

-- fuel above the size changes no count of words
pub ideal_words_enough : (f g n : ℕ) → n ≤ f → n ≤ g
    → ideal_words_within f n ≡ ideal_words_within g n
unfolding ideal_words_within
ideal_words_enough f g zero h k = refl
ideal_words_enough f g (suc zero) h k = refl
ideal_words_enough zero g (suc (suc m)) h k = absurd (omega arith)
ideal_words_enough (suc f) zero (suc (suc m)) h k = absurd (omega arith)
ideal_words_enough (suc f) (suc g) (suc (suc m)) h k =
    ap (λ x. inner_words (degree (suc (suc m))) + x)
    (sum_parts_same (ideal_words_within f) (ideal_words_within g) (suc (suc m))
    (λ j. let l = part_len-lt (suc (suc m)) j (omega arith) in
    ideal_words_enough f g (part_len (suc (suc m)) j) (omega arith) (omega arith)))

-- fuel above the size changes no shape
pub shape_enough : (f g n : ℕ) → n ≤ f → n ≤ g → shape_within f n ≡ shape_within g n
unfolding shape_within
shape_enough f g zero h k = refl
shape_enough f g (suc zero) h k = refl
shape_enough zero g (suc (suc m)) h k = absurd (omega arith)
shape_enough (suc f) zero (suc (suc m)) h k = absurd (omega arith)
shape_enough (suc f) (suc g) (suc (suc m)) h k = ap (λ xs. inner_words (degree (suc (suc m))) ∷ xs)
    (join_parts_same (shape_within f) (shape_within g) (suc (suc m))
    (λ j. let l = part_len-lt (suc (suc m)) j (omega arith) in
    shape_enough f g (part_len (suc (suc m)) j) (omega arith) (omega arith)))

-- fuel above the size changes no depth
pub depth_enough : (f g n : ℕ) → n ≤ f → n ≤ g → depth_within f n ≡ depth_within g n
unfolding depth_within
depth_enough f g zero h k = refl
depth_enough f g (suc zero) h k = refl
depth_enough zero g (suc (suc m)) h k = absurd (omega arith)
depth_enough (suc f) zero (suc (suc m)) h k = absurd (omega arith)
depth_enough (suc f) (suc g) (suc (suc m)) h k = ap (λ xs. suc (fold max 0 xs))
    (map_parts_same (depth_within f) (depth_within g) (suc (suc m))
    (λ j. let l = part_len-lt (suc (suc m)) j (omega arith) in
    depth_enough f g (part_len (suc (suc m)) j) (omega arith) (omega arith)))

-- ---- a node from its parts

-- the words of a node are its top row's and its parts'
pub ideal_words_many : (n : ℕ) → 2 ≤ n
    → ideal_words n ≡ inner_words (degree n) + sum_by ideal_words (part_lens n)
unfolding ideal_words ideal_words_within
ideal_words_many zero h = absurd (omega arith)
ideal_words_many (suc zero) h = absurd (omega arith)
ideal_words_many (suc (suc m)) h = ap (λ x. inner_words (degree (suc (suc m))) + x)
    (sum_parts_same (ideal_words_within (suc m)) ideal_words (suc (suc m))
    (λ j. let k = part_len (suc (suc m)) j in let l = part_len-lt (suc (suc m)) j h in
    ideal_words_enough (suc m) k k (omega arith) (omega arith)))

-- an ideal tree of no key has no inner row
pub shape_none : shape 0 ≡ []
unfolding shape shape_within
shape_none = refl

-- an ideal tree of one key has no inner row
pub shape_one : shape 1 ≡ []
unfolding shape shape_within
shape_one = refl

-- fewer than two keys have no inner rows
pub shape_few : (n : ℕ) → n < 2 → shape n ≡ []
shape_few zero h = shape_none
shape_few (suc zero) h = shape_one
shape_few (suc (suc n)) h = absurd (omega arith)

-- the shape of a node is its row's length and the shapes of its parts
pub shape_many : (n : ℕ) → 2 ≤ n → shape n ≡ inner_words (degree n) ∷ flat_map shape (part_lens n)
unfolding shape shape_within
shape_many zero h = absurd (omega arith)
shape_many (suc zero) h = absurd (omega arith)
shape_many (suc (suc m)) h = ap (λ xs. inner_words (degree (suc (suc m))) ∷ xs)
    (join_parts_same (shape_within (suc m)) shape (suc (suc m))
    (λ j. let k = part_len (suc (suc m)) j in let l = part_len-lt (suc (suc m)) j h in
    shape_enough (suc m) k k (omega arith) (omega arith)))

-- the depth of a node is one more than the depth of its deepest part
pub depth_many : (n : ℕ) → 2 ≤ n → depth n ≡ suc (fold max 0 (map depth (part_lens n)))
unfolding depth depth_within
depth_many zero h = absurd (omega arith)
depth_many (suc zero) h = absurd (omega arith)
depth_many (suc (suc m)) h = ap (λ xs. suc (fold max 0 xs))
    (map_parts_same (depth_within (suc m)) depth (suc (suc m))
    (λ j. let k = part_len (suc (suc m)) j in let l = part_len-lt (suc (suc m)) j h in
    depth_enough (suc m) k k (omega arith) (omega arith)))
