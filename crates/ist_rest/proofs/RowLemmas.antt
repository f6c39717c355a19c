-- The words of a published row, read one by one. Serves the law on standing words.
use Rattle.std.proofs.Common.{◌≡◌, ℕ, ◌+◌, ◌-◌, ◌<◌, ◌≤◌, List, length, take, drop, get_or, sym, ap, ◌∙◌, arith, length-append}
use Rattle.std.proofs.lemmas.Option.{get_or_from_slice_get, slice_get-get_or}
use Rattle.std.proofs.lemmas.List.{length-take-le, length-drop, get_or-take, get_or-drop, ext_get_or, take_at, drop_at, take_all}
use Rattle.ist_core.specs.declared.states.InnerRow.{InnerRow}
use Rattle.ist_core.specs.Naming.{HasDegree}
use Rattle.ist_core.specs.WordTerms.{Piece, Inner, words_of, size_of, StandsAt}
use Rattle.ist_rest.specs.WordRows.{word_at, row_degree, row_size, row_keys, row_slots}

-- one word of a row
pub word_is : (words : List ℕ) (base k : ℕ) (p : Piece) → StandsAt words base p → k < size_of p
    → word_at words (base + k) ≡ get_or (words_of p) k 0
word_is words base k p h less = grind (arith, get_or_from_slice_get, slice_get-get_or)

-- the first word of a row
pub first_word : (words : List ℕ) (base : ℕ) (p : Piece) → StandsAt words base p → 0 < size_of p
    → word_at words base ≡ get_or (words_of p) 0 0
first_word words base p h less = let e : base ≡ base + 0 = omega arith in ap (word_at words) e
    ∙ word_is words base 0 p h less

-- some words of a row
range_is : (words ys : List ℕ) (base from n : ℕ)
    → ((k : ℕ) → k < n → get_or words (base + from + k) 0 ≡ get_or ys (from + k) 0)
    → base + from + n ≤ length words → from + n ≤ length ys
    → take n (drop (base + from) words) ≡ take n (drop from ys)
range_is words ys base from n same here there = let a = length-drop (base + from) words in
    let b = length-drop from ys in
    let x : length (take n (drop (base + from) words)) ≡ n =
    length-take-le n (drop (base + from) words) (omega arith) in
    let y : length (take n (drop from ys)) ≡ n = length-take-le n (drop from ys) (omega arith) in
    ext_get_or 0 (take n (drop (base + from) words)) (take n (drop from ys)) (x ∙ sym y)
    (λ i less. let low : i < n = omega arith in
    get_or-take n (drop (base + from) words) i 0 low ∙ get_or-drop (base + from) words i 0
    ∙ same i low
    ∙ sym (get_or-drop from ys i 0) ∙ sym (get_or-take n (drop from ys) i 0 low))

-- ---- an inner row

module _ (words : List ℕ) (base : ℕ) (r : InnerRow) (h : StandsAt words base (Inner r))
    (shape : HasDegree r) (room : base + size_of (Inner r) ≤ length words) where
  size_is : size_of (Inner r) ≡ 4 + length r.keys + length r.slots
  size_is = let a = length-append r.keys r.slots in omega arith

  -- the words give the row's degree
  pub degree_is : row_degree words base ≡ r.degree
  degree_is = word_is words base 2 (Inner r) h (omega arith)

  -- the words give the row's size
  pub size_word : row_size words base ≡ r.size
  size_word = word_is words base 3 (Inner r) h (omega arith)

  part_is : (from n : ℕ) → from + n ≤ size_of (Inner r) → take n (drop (base + from) words) ≡ take
      n (drop from (words_of (Inner r)))
  part_is from n fits = range_is words (words_of (Inner r)) base from n
      (λ k less. let e : base + from + k ≡ base + (from + k) = omega arith in ap (word_at words) e
      ∙ word_is words base (from + k) (Inner r) h (omega arith))
      (omega arith) fits

  -- the words give the row's keys
  pub keys_are : row_keys words base ≡ r.keys
  keys_are = grind (arith, degree_is, size_is, part_is, take_at)

  following : drop (4 + length r.keys) (words_of (Inner r)) ≡ r.slots
  following = grind (arith, drop_at)

  -- the words give the row's slots
  pub slots_are : row_slots words base ≡ r.slots
  slots_are = let d = degree_is in let k = shape.keys in let s = shape.slots in let z = size_is in
      let n : base + 3 + row_degree words base + row_degree words base -
      (base + 3 + row_degree words base) ≡ length r.slots = omega arith in
      let m : base + 3 + row_degree words base ≡ base + (4 + length r.keys) = omega arith in
      ap (λ j. take j (drop (base + 3 + row_degree words base) words)) n
      ∙ ap (λ j. take (length r.slots) (drop j words)) m
      ∙ part_is (4 + length r.keys) (length r.slots) (omega arith)
      ∙ ap (take (length r.slots)) following
      ∙ take_all (length r.slots) r.slots (omega arith)
