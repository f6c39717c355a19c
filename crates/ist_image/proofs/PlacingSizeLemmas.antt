-- Where the trees of parts lie within the words of the whole. Serves `laying.rt`.
use Rattle.std.proofs.Common.{◌≡◌, ◌∙◌, ◌+◌, ◌-◌, ◌<◌, ◌≤◌, ◌^◌, ℕ, zero, suc, List, length, refl, sym, ap, subst, arith}
use Rattle.ist_core.specs.declared.pairs.Pair.{Pair}
use Rattle.ist_core.specs.WordTerms.{degree, part_len, part_lens, part_start, first_row, inner_words, ideal_words}
use Rattle.ist_core.specs.LogTerms.{CanOpen}
use Rattle.ist_core.proofs.AllWordLemmas.{least_degree-le, sum_of_more, part_len-pos, part_start-suc, part_end-le, ideal_words_many, ideal_words_is, ideal_words_none, ideal_words_one}
use Rattle.ist_image.specs.Placing.{words_before, part_base, FitsAt}

-- the words of the trees of one part more
pub words_before-suc : (n j : ℕ)
    → words_before n (j + 1) ≡ words_before n j + ideal_words (part_len n j)
words_before-suc n j = grind (arith, sum_of_more)

-- more parts take at least as many words
words_before-le : (n j more : ℕ) → words_before n j ≤ words_before n (j + more)
words_before-le n j zero = grind arith
words_before-le n j (suc more) = let next : j + suc more ≡ j + more + 1 = omega arith in
    let e = ap (words_before n) next in let one = words_before-suc n (j + more) in
    let rest = words_before-le n j more in omega arith

-- the tree of the next part begins where this one ends
pub part_base-suc : (base n j : ℕ)
    → part_base base n j + ideal_words (part_len n j) ≡ part_base base n (j + 1)
part_base-suc base n j = let one = words_before-suc n j in omega arith

-- the first part begins after the inner row
pub part_base-first : (base n : ℕ) → base + inner_words (degree n) ≡ part_base base n 0
part_base-first base n = omega arith

-- the last part ends with the words of the whole
pub part_base-last : (base n : ℕ) → 2 ≤ n → base + ideal_words n ≡ part_base base n (degree n)
unfolding part_lens
part_base-last base n two = let whole = ideal_words_many n two in omega arith

-- a tree that fits has few keys
pub few_fit : (base n : ℕ) → FitsAt base n → n < 2 ^ 28
few_fit base n fits = grind (arith, ideal_words_is)

-- a part fits if the whole does
pub part_fits : (base n j : ℕ) → 2 ≤ n → j < degree n → FitsAt base n
    → FitsAt (part_base base n j) (part_len n j)
part_fits base n j two h fits = let low = fits.after_fixed in let high = fits.below_limit in
    let end = part_base-last base n two in let next = part_base-suc base n j in
    let last : j + 1 + (degree n - (j + 1)) ≡ degree n = omega arith in
    let most = words_before-le n (j + 1) (degree n - (j + 1)) in
    let same = ap (words_before n) last in
    record { after_fixed = omega arith; below_limit = omega arith }

-- the base of a part is below the limit
pub part_base_fits : (base n j : ℕ) → 2 ≤ n → j < degree n → FitsAt base n
    → part_base base n j < 2 ^ 28
part_base_fits base n j two h fits = let part = part_fits base n j two h fits in
    let high = part.below_limit in let some = part_len-pos n j two in
    let words = ideal_words_is (part_len n j) in omega arith

-- a part that is known by its base and its length fits if the whole does
pub part_fits_at : (base n j at len : ℕ) → 2 ≤ n → j < degree n → FitsAt base n
    → at ≡ part_base base n j → len ≡ part_len n j → FitsAt at len
part_fits_at base n j at len two h fits e i =
    subst (λ b. FitsAt b len) (sym e) (subst (FitsAt (part_base base n j)) (sym i)
    (part_fits base n j two h fits))

-- a part ends within the words of the whole
pub part_ends : (base n j : ℕ) → 2 ≤ n → j < degree n
    → part_base base n j + ideal_words (part_len n j) ≤ base + ideal_words n
part_ends base n j two h = let end = part_base-last base n two in
    let next = part_base-suc base n j in
    let last : j + 1 + (degree n - (j + 1)) ≡ degree n = omega arith in
    let most = words_before-le n (j + 1) (degree n - (j + 1)) in
    let same = ap (words_before n) last in omega arith

-- an inner row lies within the words of its tree
pub row_fits : (base n whole : ℕ) → 2 ≤ n → base + ideal_words n ≤ whole
    → base + inner_words (degree n) ≤ whole
row_fits base n whole two room = let words = ideal_words_many n two in omega arith

-- the tree of a table that may begin so fits
pub opens_fit : (pairs : List Pair) (words : ℕ) → CanOpen pairs words
    → FitsAt first_row (length pairs)
opens_fit pairs words opens = grind arith

-- no pair is before the first part
pub part_start-first : (n : ℕ) → part_start n 0 ≡ 0
unfolding part_start
part_start-first n = refl

-- the next part begins where this one ends
pub next_start : (n m j start len next : ℕ) → m ≡ n → start ≡ part_start n j → len ≡ part_len m j
    → j + 1 ≡ next → start + len ≡ part_start n next
next_start n m j start len next e s l k = let more = part_start-suc n j in
    let same = ap (λ i. part_len i j) e in
    let at = ap (part_start n) (let i : suc j ≡ next = omega arith in i) in
    omega (arith, more, same, at)

-- a part ends within the whole
pub end_within : (n m j start len : ℕ) → m ≡ n → j < degree n → start ≡ part_start n j
    → len ≡ part_len m j → start + len ≤ n
end_within n m j start len e below s l = grind (arith, part_end-le)

-- a part of several pairs begins within the whole
pub start_within : (n j start : ℕ) → 2 ≤ n → j < degree n → start ≡ part_start n j → start < n
start_within n j start two below s = omega (arith, part_end-le n j below, part_len-pos n j two)

-- where part j lies: its row and its tree within the words, and its tree after the row and below the limit
pub record PartLies (base n d j at len whole : ℕ) : Type 0 where
  pub below : j < degree n
  pub fits : FitsAt at len
  pub row : base + inner_words d ≤ at
  pub low : 4 ≤ at
  pub small : at < 2 ^ 28
  pub room : at + ideal_words len ≤ whole
  pub next : at + ideal_words len ≡ part_base base n (j + 1)

-- each part of the tree over several pairs lies so
pub part_lies : (base n m d j at len whole : ℕ) → 2 ≤ m → m ≡ n → d ≡ degree m → j < d → FitsAt base n
    → base + ideal_words n ≤ whole → at ≡ part_base base n j → len ≡ part_len n j
    → PartLies base n d j at len whole
part_lies base n m d j at len whole several same is less fits room place long =
    let two : 2 ≤ n = omega arith in let count = is ∙ ap degree same in
    let below : j < degree n = omega arith in let high = part_base_fits base n j two below fits in
    let low = fits.after_fixed in let ends = part_ends base n j two below in
    let size = ap ideal_words long in let next = part_base-suc base n j in record {
      below = below;
      fits = part_fits_at base n j at len two below fits place long;
      row = omega arith;
      low = omega arith;
      small = omega arith;
      room = omega arith;
      next = omega arith;
    }

-- the tree of no pair ends where it begins
pub none_end : (base n : ℕ) → n < 1 → base ≡ base + ideal_words n
none_end base n less = grind (arith, ideal_words_none)

-- the tree of one pair has two words
pub one_end : (base n : ℕ) → 1 ≤ n → n < 2 → base + 2 ≡ base + ideal_words n
one_end base n least most = grind (arith, ideal_words_one)

-- after the last part the tree ends
pub last_end : (base n m d j at : ℕ) → 2 ≤ m → m ≡ n → d ≡ degree m → j ≡ d → at ≡ part_base base n j
    → at ≡ base + ideal_words n
last_end base n m d j at several same is all place = let count = is ∙ ap degree same in
    place ∙ ap (part_base base n) (all ∙ count) ∙ sym (part_base-last base n (omega arith))

-- the fields and the keys of an inner row lie within the words of its tree, which has at least two children
pub head_fits : (base n m whole : ℕ) → 2 ≤ m → m ≡ n → base + ideal_words n ≤ whole
    → (2 ≤ degree n) × (base + 4 + degree n ≤ whole + 1)
head_fits base n m whole several same room = let row = row_fits base n whole (omega arith) room in
    (least_degree-le n, omega arith)
