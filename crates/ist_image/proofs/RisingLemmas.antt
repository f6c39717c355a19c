-- Pairs with the numbers from 0 on as keys. Serves the tests in `test_parts`.
use Rattle.std.proofs.Common.{◌≡◌, ◌∙◌, ◌+◌, ◌*◌, ◌≤◌, ◌<◌, ℕ, zero, suc, List, [], ◌∷◌, ◌++◌, length, map, ap, sym, subst, arith, ◌-◌, take, drop, slice_get, refl, inl, inr, length-append, append_assoc, get_or}
use Rattle.std.specs.List.{range_with_len}
use Rattle.std.specs.List.Sorted.{IsStrictlyIncreasing}
use Rattle.std.proofs.lemmas.List.{length-map, map-append, length-take-le}
use Rattle.std.proofs.lemmas.List.FromFn.{length-map-range_with_len, get_or-map-range_with_len, map-range_with_len_more}
use Rattle.ist_core.specs.declared.pairs.Pair.{Pair}
use Rattle.ist_core.specs.WordTerms.{place_limit, first_row, ideal_words, word_of, Piece, words_of, size_of, start, tree_at, rows_from, IsImage, StandsAt, degree, part_start, parts, first_keys}
use Rattle.ist_core.specs.LogTerms.{CanOpen, Among}
use Rattle.ist_core.specs.ExampleTables.{two_pairs, pair}
use Rattle.ist_core.proofs.AllWordLemmas.{ideal_words_nine, ideal_words_one, ideal_words_two, FillWords, fills_rows, among-pieces_of, slice_get-drop}
use Rattle.std.proofs.Math.ListN.{set}
use Rattle.std.proofs.lemmas.List.Edits.{sets, sets-eq}
use Rattle.std.proofs.Math.Seq.{length-sets}
use Rattle.ist_core.proofs.AllPlaceLemmas.{get_after}
use Rattle.ist_image.specs.Zeros.{ZerosFrom}
use Rattle.ist_image.specs.Placing.{row_words, tree_words, image_words, keys_after}
use Rattle.ist_image.proofs.PlacedLemmas.{length-tree_words}
use Rattle.ist_image.proofs.PlacingLemmas.{keys_of_parts_are, key_at}
use Rattle.ist_image.proofs.PlacingSizeLemmas.{start_within}
use Rattle.ist_image.proofs.SettingLemmas.{set_made, none_made}

-- the numbers from 0 on
abbrev numbers : ℕ → List ℕ
numbers n = map (λ i. i) (range_with_len 0 n)

rising : (n : ℕ) → IsStrictlyIncreasing (numbers n)
rising n k h = grind (arith, length-map-range_with_len, get_or-map-range_with_len)

-- there are as many pairs as keys
pub length-numbered : (pairs : List Pair) (n : ℕ) → map (λ pair. pair.key) pairs ≡ numbers n
    → length pairs ≡ n
length-numbered pairs n e = grind (arith, length-map, length-map-range_with_len)

-- a table may begin with these pairs
pub numbered_open : (pairs : List Pair) (n words : ℕ) → map (λ pair. pair.key) pairs ≡ numbers n
    → 4 + 9 * n ≤ words → words ≤ place_limit → CanOpen pairs words
numbered_open pairs n words e room within = grind (arith, length-numbered, ideal_words_nine, rising)

-- the pairs with one more number as a key
pub numbered_more : (pairs : List Pair) (n value : ℕ) → map (λ pair. pair.key) pairs ≡ numbers n
    → map (λ pair. pair.key) (pairs ++ pair n value ∷ []) ≡ numbers (n + 1)
numbered_more pairs n value e =
    map-append (λ pair. pair.key) pairs (pair n value ∷ []) ∙ ap (λ xs. xs ++ n ∷ []) e
    ∙ sym (map-range_with_len_more (λ i. i) 0 n n (omega arith))

-- ---- the tables that are worked by hand

-- a table may begin with one pair
pub one_opens : CanOpen (pair 5 7 ∷ []) 16
one_opens = grind (arith, rising, ideal_words_one)

pub two_rise : IsStrictlyIncreasing (map (λ pair. pair.key) two_pairs)
two_rise zero h = omega arith
two_rise (suc k) h = absurd (omega arith)

-- a table may begin with two pairs
pub two_open : CanOpen two_pairs 20
two_open = grind (arith, rising, two_rise, ideal_words_two)

-- ---- the words that are written are the image of a new table. Serves `images.rt`.

-- a word of the first list
get_before : (xs ys : List ℕ) (k : ℕ) → k < length xs → slice_get (xs ++ ys) k ≡ slice_get xs k
get_before [] ys k h = absurd (omega arith)
get_before (x ∷ xs) ys zero h = refl
get_before (x ∷ xs) ys (suc k) h = get_before xs ys k (omega arith)

-- rows that lie one after another are in the words at their bases
rows_stand : (front rest : List ℕ) (to : ℕ) (rows : List (ℕ × Piece)) (base : ℕ) (p : Piece)
    → FillWords (length front) rows to → Among (base, p) rows
    → StandsAt (front ++ (row_words rows ++ rest)) base p
rows_stand front rest to [] base p fills i k h = absurd i
rows_stand front rest to (row ∷ rows) base p fills (inl e) k h =
    let here : base ≡ length front = ap (λ x. x.0) e ∙ fills.0 in
    let is : p ≡ row.1 = ap (λ x. x.1) e in let size = ap (λ q. size_of q) is in
    let all = front ++ (row_words (row ∷ rows) ++ rest) in ap (λ b. slice_get all (b + k)) here
    ∙ get_after front (row_words (row ∷ rows) ++ rest) k
    ∙ ap (λ ws. slice_get ws k) (append_assoc (words_of row.1) (row_words rows) rest)
    ∙ get_before (words_of row.1) (row_words rows ++ rest) k (omega arith)
    ∙ ap (λ q. slice_get (words_of q) k) (sym is)
rows_stand front rest to (row ∷ rows) base p fills (inr i) k h = let first = words_of row.1 in
    let long : length front + size_of row.1 ≡ length (front ++ first) =
    sym (length-append front first) in
    subst (λ ws. StandsAt ws base p)
    (append_assoc front first (row_words rows ++ rest)
    ∙ ap (λ ws. front ++ ws) (sym (append_assoc first (row_words rows) rest)))
    (rows_stand (front ++ first) rest to rows base p
    (subst (λ from. FillWords from rows to) long fills.1) i)
    k h

-- the fixed words, and the words of the tree after them
pub words_laid : (old new : List ℕ) (next anchor first : ℕ) (pairs : List Pair)
    → next ≡ first_row + ideal_words (length pairs) → anchor ≡ word_of (tree_at first pairs)
    → first ≡ first_row
    → new ≡ sets (set (set (set (set old 0 next) 1 0) 2 0) 3 anchor) first (tree_words first pairs)
    → new ≡ sets old 0 (image_words pairs)
words_laid old new next anchor first pairs n a f e = grind (arith, set, sets)

-- the first words of two lists, the first of which is no longer
take_over : (xs ys : List ℕ) (n : ℕ) → length xs ≤ n → take n (xs ++ ys) ≡ xs ++ take (n - length xs) ys
take_over [] ys n h = ap (λ k. take k ys) (let e : n ≡ n - 0 = omega arith in e)
take_over (x ∷ xs) ys zero h = absurd (omega arith)
take_over (x ∷ xs) ys (suc n) h =
    ap (λ zs. x ∷ zs) (take_over xs ys n (omega arith)
    ∙ ap (λ k. xs ++ take k ys) (let e : n - length xs ≡ suc n - suc (length xs) = omega arith in e))

-- a word of the first ones
get_taken : (xs : List ℕ) (n k : ℕ) → k < n → slice_get (take n xs) k ≡ slice_get xs k
get_taken xs zero k h = absurd (omega arith)
get_taken [] (suc n) k h = refl
get_taken (x ∷ xs) (suc n) zero h = refl
get_taken (x ∷ xs) (suc n) (suc k) h = get_taken xs n k (omega arith)

module _ (pairs : List Pair) (old : List ℕ) (n : ℕ) (opens : CanOpen pairs n) (held : n ≤ length old) where
  -- the number of words that the image uses
  length-image_words : length (image_words pairs) ≡ first_row + ideal_words (length pairs)
  length-image_words = let tree = length-tree_words first_row pairs in omega arith

  -- the words after the image
  abbrev rest : List ℕ
  rest = drop (0 + length (image_words pairs)) old

  -- the words are the image's, and then the old ones
  words_are : sets old 0 (image_words pairs) ≡ image_words pairs ++ rest
  words_are = grind (arith, length-image_words, sets-eq)

  -- and so are the first n of them
  abbrev table : List ℕ
  table = take n (sets old 0 (image_words pairs))

  abbrev spare : List ℕ
  spare = take (n - length (image_words pairs)) rest

  table_is : table ≡ image_words pairs ++ spare
  table_is = let room = opens.room in let long = length-image_words in
      ap (take n) words_are ∙ take_over (image_words pairs) rest n (omega arith)

  -- after the image they are 0
  pub zeros_after : ZerosFrom (first_row + ideal_words (length pairs)) old
      → ZerosFrom (first_row + ideal_words (length pairs)) (sets old 0 (image_words pairs))
  zeros_after zeros place following within = let long = length-image_words in
      let m = length (image_words pairs) in let same = length-sets old 0 (image_words pairs) in
      let at : place ≡ m + (place - m) = omega arith in
      let whole : 0 + m + (place - m) ≡ place = omega arith in
      ap (λ ws. slice_get ws place) words_are
      ∙ ap (slice_get (image_words pairs ++ rest)) at
      ∙ get_after (image_words pairs) rest (place - m)
      ∙ slice_get-drop (0 + m) old (place - m)
      ∙ ap (slice_get old) whole
      ∙ zeros place following (omega arith)

  -- the first n words are the image
  pub image_laid : ZerosFrom (first_row + ideal_words (length pairs)) old → IsImage (start pairs n) table
  image_laid zeros =
      let fixed = (first_row + ideal_words (length pairs)) ∷ 0 ∷ 0
      ∷ word_of (tree_at first_row pairs) ∷ [] in
      let same = length-sets old 0 (image_words pairs) in record {
        size = length-take-le n (sets old 0 (image_words pairs)) (omega arith);
        next = ap (λ ws. slice_get ws 0) table_is;
        callers = ap (λ ws. slice_get ws 1) table_is;
        anchor_status = ap (λ ws. slice_get ws 2) table_is;
        anchor_slot = ap (λ ws. slice_get ws 3) table_is;
        rows = λ base p e. subst (λ ws. StandsAt ws base p) (sym table_is)
            (rows_stand fixed spare (first_row + ideal_words (length pairs))
            (rows_from first_row pairs) base p
            (fills_rows (length pairs) first_row pairs (omega arith))
            (among-pieces_of (rows_from first_row pairs) base p e));
        free = λ place following within. get_taken (sets old 0 (image_words pairs)) n place within
            ∙ zeros_after zeros place following (omega arith);
      }

-- ---- the keys of an inner row, written one after another. Serves `rows.rt`.

-- at first all keys but the first part's are still to be written
pub keys_left : (xs : List Pair) (words : List ℕ) (place : ℕ)
    → sets words (place + 0) (keys_after xs 1) ≡ sets words place (keys_after xs 1)
keys_left xs words place = grind (arith, sets)

module _ (xs : List Pair) (m d : ℕ) (several : 2 ≤ m) (same : m ≡ length xs) (is : d ≡ degree m) where
  -- the number of children
  children : d ≡ degree (length xs)
  children = is ∙ ap degree same

  module _ (j start : ℕ) (less : j < d) (some : 1 ≤ j) (at : start ≡ part_start m (j - 1 + 1)) where
    -- the part after the last one is part j
    begins : start ≡ part_start (length xs) j
    begins = grind arith

    -- so is the one before the next
    pub begins_next : start ≡ part_start m (j + 1 - 1)
    begins_next = at ∙ ap (part_start m) (let e : j - 1 + 1 ≡ j + 1 - 1 = omega arith in e)

    -- it begins at one of the pairs
    pub begins_within : start < length xs
    begins_within = grind (arith, start_within, begins)

    -- its first key is written
    pub key_put : (words : List ℕ) (place : ℕ) (default : Pair)
        → sets (set words (place + (j - 1)) (get_or xs start default).key) (place + (j + 1 - 1))
        (keys_after xs (j + 1)) ≡ sets words (place + (j - 1)) (keys_after xs j)
    key_put words place default = grind (arith, set_made, key_at, begins_within, begins)

  -- after the last part all are written
  pub keys_put : (old words : List ℕ) (place j : ℕ) → j ≡ d
      → sets words (place + (j - 1)) (keys_after xs j) ≡ sets old place (keys_after xs 1)
      → words ≡ sets old place (first_keys (λ pair. pair.key) (drop 1 (parts xs)))
  keys_put old words place j all left =
      sym (none_made (λ i. get_or (map (λ pair. pair.key) xs) (part_start (length xs) i) 0) words
      (place + (j - 1)) j (degree (length xs)) (all ∙ children)) ∙ left
      ∙ ap (sets old place) (keys_of_parts_are (λ pair. pair.key) xs (let n = same in omega arith))
