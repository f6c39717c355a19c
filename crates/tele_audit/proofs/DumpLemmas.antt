-- What the first bytes of a dump say, and dumps of lawful words. Serves `audits` and the laws.
use Rattle.std.proofs.Common.{◌≡◌, ℕ, zero, suc, ◌-◌, ◌<◌, ◌≤◌, ◌^◌, nat_eq, Bool, true, false, if◌then◌else◌, List, [], ◌∷◌, ◌++◌, length, take, drop, get_or, replicate, Some, None, refl, sym, ap, ◌∙◌, arith}
use Rattle.std.specs.List.{starts_with, flat_map}
use Rattle.std.specs.Cmp.Lexicographic.{same_text}
use Rattle.std.proofs.lemmas.Bool.Decides.{nat_tests}
use Rattle.std.proofs.lemmas.List.{take-append-drop, length-drop, length-append, length-replicate, take_at, drop-drop, get_or_append_left}
use Rattle.ist_core.specs.declared.pairs.Pair.{Pair}
use Rattle.ist_core.specs.WordTerms.{first_row, place_limit, next_place, anchor_status_place}
use Rattle.ist_rest.specs.WordRows.{word_at}
use Rattle.tele_audit.specs.WordLaws.{ZerosChangeNothing}
use Rattle.ist_rest.specs.RestingWords.{HasGoodBounds, AreLawful, BreaksFirstAt}
use Rattle.ist_rest.specs.Walks.{first_visit}
use Rattle.tele_audit.specs.declared.flaws.Flaw.TheVariants.{Magic, Short, Size, Used, Long}
use Rattle.tele_audit.specs.Dumps.{magic, number_bytes, used_words, dump_of, DumpContent, IsLawfulDump}
use Rattle.tele_audit.specs.Flaws.{count_told, used_told, dump_length, words_told, table_told, is_out, head_flaw, length_flaw, flaw_before_rows, BreaksAtRow}
use Rattle.tele_audit.specs.Taking.{AreBytes}
use Rattle.tele_audit.proofs.NumberLemmas.{bytes-drop, number_encoded_inside, number_bytes-number_encoded, length_numbers_in, get_or_numbers_in, bytes_of_numbers}

-- ---- tests

-- no test of the head names a flaw
record IsUnnamed (m s z t u : Bool) : Type 0 where
  pub begins : m ≡ true
  pub sixteen : s ≡ false
  pub count : z ≡ false
  pub long : t ≡ false
  pub used : u ≡ false

picked : (m s z t u : Bool)
    → (if m then (if s then Some Short else (if z then Some Size else (if t then Some Short else
    (if u then Some Used else None)))) else Some Magic) ≡ None
    → IsUnnamed m s z t u
picked false s z t u e = absurd (cc)
picked true true z t u e = absurd (cc)
picked true false true t u e = absurd (cc)
picked true false false true u e = absurd (cc)
picked true false false false true e = absurd (cc)
picked true false false false false e = grind arith

in_bounds : (low high n : ℕ) → is_out low high n ≡ false → (low ≤ n) × (n ≤ high)
in_bounds low high n e = (grind (arith, nat_tests), grind (arith, nat_tests))

-- ---- the head

-- the first numbers are in good shape
pub record IsGoodHead (bytes : List ℕ) : Type 0 where
  pub begins : starts_with nat_eq bytes magic ≡ true
  pub long : 24 ≤ length bytes
  pub count : (first_row ≤ count_told bytes) × (count_told bytes ≤ place_limit)
  pub used : (first_row ≤ used_told bytes) × (used_told bytes ≤ count_told bytes)

-- bytes whose first numbers have no flaw have a good head
pub good_head : (bytes : List ℕ) → head_flaw bytes ≡ None → IsGoodHead bytes
good_head bytes e = grind (arith, picked, nat_tests, in_bounds)

-- bytes that begin so begin with these
begin_magic : (bytes : List ℕ) → starts_with nat_eq bytes magic ≡ true → take 8 bytes ≡ magic
begin_magic bytes e = sym (same_text magic (take 8 bytes) (sym e))

-- more bytes change nothing of the head
module _ (xs ys : List ℕ) (long : 24 ≤ length xs) where
  -- the number of words is determined by the first bytes
  pub count_front : count_told (xs ++ ys) ≡ count_told xs
  count_front = number_encoded_inside 8 xs ys (omega arith)

  -- the number of used words is determined by the first bytes
  pub used_front : used_told (xs ++ ys) ≡ used_told xs
  used_front = number_encoded_inside 16 xs ys (omega arith)

-- ---- the length

-- which test of the length names a flaw
sized : (a b : Bool) → (if a then Some Short else (if b then Some Long else None)) ≡ None
    → (a ≡ false) × (b ≡ false)
sized true b e = absurd (cc)
sized false true e = absurd (cc)
sized false false e = (refl, refl)

-- the length is a dump's
pub good_length : (bytes : List ℕ) → length_flaw bytes ≡ None
    → length bytes ≡ dump_length (used_told bytes)
good_length bytes e = grind (arith, sized, nat_tests)

-- ---- the words of a dump

-- words below 2^64 with zeros after them
fit_zeros : (xs : List ℕ) (n : ℕ) → ((i : ℕ) → get_or xs i 0 < 2 ^ 64)
    → (i : ℕ) → get_or (xs ++ replicate n 0) i 0 < 2 ^ 64
fit_zeros [] zero h i = h i
fit_zeros [] (suc n) h zero = h 0
fit_zeros [] (suc n) h (suc i) = fit_zeros [] n (λ j. h (suc j)) i
fit_zeros (x ∷ xs) n h zero = h 0
fit_zeros (x ∷ xs) n h (suc i) = fit_zeros xs n (λ j. h (suc j)) i

-- nothing is wrong before the rows
none_before : (bytes : List ℕ) → head_flaw bytes ≡ None → length_flaw bytes ≡ None
    → word_at (words_told bytes) anchor_status_place ≡ 0 → flaw_before_rows bytes ≡ None
none_before bytes h l open_anchor = grind arith

-- the words of a dump whose head and length are in good shape
module _ (bytes : List ℕ) (head : IsGoodHead bytes)
    (whole : length bytes ≡ dump_length (used_told bytes)) where
  -- as many as are used
  pub length_told : length (words_told bytes) ≡ used_told bytes
  length_told = length_numbers_in (used_told bytes) (drop 16 bytes)

  -- the first of them says so
  pub first_told : word_at (words_told bytes) next_place ≡ used_told bytes
  first_told = grind (arith, get_or_numbers_in)

  -- they are in bounds if the anchor is open
  pub bounds_told : word_at (words_told bytes) anchor_status_place ≡ 0
      → HasGoodBounds (words_told bytes)
  bounds_told open_anchor = grind (arith, length_told, first_told)

  -- the whole table has as many words as the dump says
  pub length_table : length (table_told bytes) ≡ count_told bytes
  length_table = grind (arith, length_told, length-append, length-replicate)

  -- the first word of the table
  pub first_table : word_at (table_told bytes) next_place ≡ used_told bytes
  first_table = grind (arith, length_told, get_or_append_left, first_told)

  -- its used words
  pub used_table : used_words (table_told bytes) ≡ words_told bytes
  used_table = grind (arith, first_table, take_at, length_told)

  -- the bytes are its dump
  pub dumped_table : AreBytes bytes → bytes ≡ dump_of (table_told bytes)
  dumped_table are = let u = head.used in let long = head.long in let l8 = length-drop 8 bytes in
      let l16 = length-drop 16 bytes in
      let first : take 8 bytes ≡ magic = begin_magic bytes head.begins in
      let count : take 8 (drop 8 bytes) ≡ number_bytes (length (table_told bytes)) =
      sym (number_bytes-number_encoded (drop 8 bytes) (bytes-drop 8 bytes are) (omega arith))
      ∙ ap number_bytes (sym length_table) in
      let words : drop 16 bytes ≡ flat_map number_bytes (used_words (table_told bytes)) =
      sym (bytes_of_numbers (used_told bytes) (drop 16 bytes) (bytes-drop 16 bytes are) (omega arith))
      ∙ ap (flat_map number_bytes) (sym used_table) in
      let rest : drop 8 bytes ≡ take 8 (drop 8 bytes) ++ drop 16 bytes =
      sym (take-append-drop 8 (drop 8 bytes))
      ∙ ap (λ xs. take 8 (drop 8 bytes) ++ xs) (drop-drop 8 8 bytes) in
      sym (take-append-drop 8 bytes)
      ∙ ap (λ (xs : List ℕ). xs ++ drop 8 bytes) first
      ∙ ap (λ xs. magic ++ xs) (rest ∙ ap (λ (xs : List ℕ). xs ++ drop 16 bytes) count
      ∙ ap (λ xs. number_bytes (length (table_told bytes)) ++ xs) words)

  module _ (zeros : ZerosChangeNothing) where
    -- zeros after the used words
    following : ((pairs : List Pair) → AreLawful (words_told bytes) pairs
        → AreLawful (table_told bytes) pairs)
        × ((place : ℕ)
        → BreaksFirstAt (words_told bytes) [] (first_visit (words_told bytes) ∷ []) place
        → BreaksFirstAt (table_told bytes) [] (first_visit (table_told bytes) ∷ []) place)
    following = let l = length_told in let u = head.used in let c = head.count in
        zeros (words_told bytes) (count_told bytes - used_told bytes) (omega arith)
        (first_told ∙ sym length_told) (omega arith)

    -- the report of bytes whose words are lawful
    pub told_lawfully : AreBytes bytes → ((place : ℕ) → word_at (words_told bytes) place < 2 ^ 64)
        → (told : DumpContent) → told.words ≡ count_told bytes → told.used ≡ used_told bytes
        → AreLawful (words_told bytes) told.pairs → IsLawfulDump bytes told
    told_lawfully are fit told count used lawful = record {
      table = table_told bytes;
      fit = fit_zeros (words_told bytes) (count_told bytes - used_told bytes) fit;
      lawful = following.0 told.pairs lawful;
      dumped = dumped_table are;
      words = count ∙ sym length_table;
      used = used ∙ sym first_table;
    }

    -- where the words of the table break
    pub told_broken : word_at (words_told bytes) anchor_status_place ≡ 0
        → head_flaw bytes ≡ None → length_flaw bytes ≡ None → (place : ℕ)
        → BreaksFirstAt (words_told bytes) [] (first_visit (words_told bytes) ∷ []) place
        → BreaksAtRow bytes place
    told_broken open_anchor h l place first = record {
      before = none_before bytes h l open_anchor;
      breaks = following.1 place first;
    }
