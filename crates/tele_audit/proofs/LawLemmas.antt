-- What the dump of lawful words says. Serves `laws`.
use Rattle.std.proofs.Common.{◌≡◌, ℕ, suc, ◌+◌, ◌-◌, ◌<◌, ◌≤◌, ◌^◌, false, List, [], ◌∷◌, ◌++◌, length, drop, get_or, replicate, Some, None, refl, sym, ap, ◌∙◌, subst, arith}
use Rattle.std.specs.List.{flat_map}
use Rattle.std.proofs.lemmas.Bool.Decides.{nat_tests}
use Rattle.std.proofs.lemmas.List.{take-append-drop, length-drop, length-append, length-take-le, drop_at, drop-drop, append-nil, get_or-drop, get_or-take}
use Rattle.ist_core.specs.declared.pairs.Pair.{Pair}
use Rattle.ist_core.specs.TreeTerms.{pairs_between}
use Rattle.ist_core.specs.WordTerms.{next_place}
use Rattle.ist_rest.specs.WordRows.{word_at}
use Rattle.tele_audit.specs.WordLaws.{PairsAreOne, LawfulWordsBreakNowhere, BreaksAreOne}
use Rattle.ist_rest.specs.RestingWords.{HasGoodBounds, AreLawful, AreListed, BreaksFirstAt}
use Rattle.ist_rest.specs.Walks.{first_visit}
use Rattle.tele_audit.specs.declared.flaws.Flaw.{Flaw}
use Rattle.tele_audit.specs.declared.flaws.Flaw.TheVariants.{Magic, Short, Size, Used, Long, Anchor, Row}
use Rattle.tele_audit.specs.Dumps.{number_bytes, used_words, dump_of, DumpContent, IsLawfulDump}
use Rattle.tele_audit.specs.Flaws.{numbers_in, count_told, used_told, dump_length, words_told, table_told, is_out, head_flaw, flaw_before_rows, BreaksAtRow, IsFirstFlaw}
use Rattle.tele_audit.proofs.NumberLemmas.{length-number_bytes, number_encoded-number_bytes, get_or_numbers_in, numbers_of_bytes, length-flat_bytes, below-take}
use Rattle.tele_lines.proofs.NumberLemmas.{not_below}

-- zeros are zeros
zeros_are : (xs : List ℕ) → ((i : ℕ) → i < length xs → get_or xs i 0 ≡ 0)
    → xs ≡ replicate (length xs) 0
zeros_are [] h = refl
zeros_are (x ∷ xs) h = ap (λ (y : ℕ). y ∷ xs) (h 0 (omega arith))
    ∙ ap (λ (ys : List ℕ). 0 ∷ ys) (zeros_are xs (λ i less. h (suc i) (omega arith)))

-- a test that a number within bounds passes
not_out : (low high n : ℕ) → low ≤ n → n ≤ high → is_out low high n ≡ false
not_out low high n a b = grind (arith, nat_tests)

-- ---- what a dump says

module _ (table : List ℕ) (bounds : HasGoodBounds table)
    (fit : (place : ℕ) → word_at table place < 2 ^ 64) where
  length_ws : length (used_words table) ≡ word_at table next_place
  length_ws = grind (arith, length-take-le)

  after_magic : drop 8 (dump_of table)
      ≡ number_bytes (length table) ++ flat_map number_bytes (used_words table)
  after_magic = grind (arith, drop_at)

  after_count : drop 16 (dump_of table) ≡ flat_map number_bytes (used_words table)
  after_count = sym (drop-drop 8 8 (dump_of table)) ∙ ap (drop 8) after_magic
      ∙ drop_at (number_bytes (length table)) (flat_map number_bytes (used_words table)) 8
      (length-number_bytes (length table))

  -- the dump of a table gives the table's number of words
  pub count_back : count_told (dump_of table) ≡ length table
  count_back = grind (arith, after_magic, number_encoded-number_bytes)

  fit_used : (i : ℕ) → get_or (used_words table) i 0 < 2 ^ 64
  fit_used = below-take (2 ^ 64) (word_at table next_place) table (omega arith) fit

  numbers_back : numbers_in (length (used_words table)) (flat_map number_bytes (used_words table))
      ≡ used_words table
  numbers_back = ap (numbers_in (length (used_words table)))
      (sym (append-nil (flat_map number_bytes (used_words table))))
      ∙ numbers_of_bytes (used_words table) [] fit_used

  -- the dump of a table gives the number of the table's used words
  pub used_back : used_told (dump_of table) ≡ word_at table next_place
  used_back = grind (arith, length_ws, after_count, get_or_numbers_in, numbers_back, get_or-take)

  -- the dump of a table gives the table's used words
  pub words_back : words_told (dump_of table) ≡ used_words table
  words_back = grind (arith, used_back, length_ws, after_count, numbers_back)

  rest_back : drop (word_at table next_place) table
      ≡ replicate (length table - word_at table next_place) 0
  rest_back = let n = word_at table next_place in let l = length-drop n table in
      zeros_are (drop n table)
      (λ i less. get_or-drop n table i 0 ∙ bounds.free (n + i) (omega arith) (omega arith))
      ∙ ap (λ m. replicate m 0) l

  -- the dump of a table gives the whole table
  pub table_back : table_told (dump_of table) ≡ table
  table_back = grind (arith, words_back, count_back, used_back, rest_back, take-append-drop)

  length_back : length (dump_of table) ≡ dump_length (used_told (dump_of table))
  length_back =
      grind (arith, length-append, length-number_bytes, length-flat_bytes, length_ws, used_back)

  head_back : head_flaw (dump_of table) ≡ None
  head_back = grind (arith, length_back, used_back, count_back, not_below, not_out)

  -- nothing is wrong in the dump of a table before its rows
  pub none_back : flaw_before_rows (dump_of table) ≡ None
  none_back = grind (arith, length_back, not_below, words_back, get_or-take, head_back)

-- ---- the laws

-- if nothing is wrong before the rows, a flaw is a broken row
named_row : (bytes : List ℕ) (flaw : Flaw) → flaw_before_rows bytes ≡ None → IsFirstFlaw bytes flaw
    → (place : ℕ) × (flaw ≡ Row place) × BreaksAtRow bytes place
named_row bytes (Row place) none h = (place, refl, h)
named_row bytes Magic none h = absurd (cc)
named_row bytes Short none h = absurd (cc)
named_row bytes Size none h = absurd (cc)
named_row bytes Used none h = absurd (cc)
named_row bytes Long none h = absurd (cc)
named_row bytes Anchor none h = absurd (cc)

-- if something is wrong before the rows, the flaw is that
named_before : (bytes : List ℕ) (flaw other : Flaw) → flaw_before_rows bytes ≡ Some flaw
    → IsFirstFlaw bytes other → flaw ≡ other
named_before bytes flaw (Row place) some h = absurd (let none = h.before in cc)
named_before bytes flaw Magic some h = cc
named_before bytes flaw Short some h = cc
named_before bytes flaw Size some h = cc
named_before bytes flaw Used some h = cc
named_before bytes flaw Long some h = cc
named_before bytes flaw Anchor some h = cc

-- bytes have one first flaw
pub one_flaw : BreaksAreOne → (bytes : List ℕ) (flaw other : Flaw) → IsFirstFlaw bytes flaw
    → IsFirstFlaw bytes other → flaw ≡ other
one_flaw one bytes (Row place) other h k = grind (arith, named_row)
one_flaw one bytes Magic other h k = named_before bytes Magic other h k
one_flaw one bytes Short other h k = named_before bytes Short other h k
one_flaw one bytes Size other h k = named_before bytes Size other h k
one_flaw one bytes Used other h k = named_before bytes Used other h k
one_flaw one bytes Long other h k = named_before bytes Long other h k
one_flaw one bytes Anchor other h k = named_before bytes Anchor other h k

module _ (bytes : List ℕ) (told : DumpContent) (h : IsLawfulDump bytes told) where
  -- a dump gives back its table
  pub table_is : table_told bytes ≡ h.table
  table_is = ap table_told h.dumped ∙ table_back h.table h.lawful.holds.bounds h.fit

  -- and has no flaw
  pub no_flaw : LawfulWordsBreakNowhere → (flaw : Flaw) → IsFirstFlaw bytes flaw → ⊥
  no_flaw nowhere flaw f =
      let none : flaw_before_rows bytes ≡ None =
      ap flaw_before_rows h.dumped ∙ none_back h.table h.lawful.holds.bounds h.fit in
      let row = named_row bytes flaw none f in nowhere h.table told.pairs h.lawful row.0
      (subst (λ xs. BreaksFirstAt xs [] (first_visit xs ∷ []) row.0) table_is row.2.breaks)

-- a report is determined by its parts
same_told : (a b : DumpContent) → a.words ≡ b.words → a.used ≡ b.used → a.pairs ≡ b.pairs → a ≡ b
same_told a b e f g = grind arith

-- a dump has only one report
pub one_told : PairsAreOne → (bytes : List ℕ) (told other : DumpContent) → IsLawfulDump bytes told
    → IsLawfulDump bytes other → told ≡ other
one_told one bytes told other h k =
    let same : h.table ≡ k.table = sym (table_is bytes told h) ∙ table_is bytes other k in
    same_told told other (h.words ∙ ap (λ (xs : List ℕ). length xs) same ∙ sym k.words)
    (h.used ∙ ap (λ xs. word_at xs next_place) same ∙ sym k.used)
    (one k.table told.pairs other.pairs
    (subst (λ xs. AreLawful xs told.pairs) same h.lawful).holds k.lawful.holds)

-- the pairs of an interval by the dump of some words are those that the words hold
pub listed_is : PairsAreOne → (words : List ℕ) (told : DumpContent) (first last : ℕ) (found : List Pair)
    → ((place : ℕ) → word_at words place < 2 ^ 64)
    → IsLawfulDump (dump_of words) told → AreListed words first last found
    → found ≡ pairs_between first last told.pairs
listed_is one words told first last found fit h listed =
    let same : h.table ≡ words =
    sym (table_is (dump_of words) told h) ∙ table_back words listed.1.bounds fit in
    listed.2
    ∙ ap (pairs_between first last)
    (one words listed.0 told.pairs listed.1
    (subst (λ xs. AreLawful xs told.pairs) same h.lawful).holds)
