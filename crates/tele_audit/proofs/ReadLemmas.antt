-- What an audit learns of bytes from the words that it reads in them. Serves `audits.audit_bytes`.
use Rattle.std.proofs.Common.{◌≡◌, ℕ, ◌<◌, ◌^◌, List, [], ◌∷◌, length, drop, None, subst, arith}
use Rattle.ist_core.specs.declared.pairs.Pair.{Pair}
use Rattle.ist_core.specs.WordTerms.{anchor_status_place}
use Rattle.ist_rest.specs.WordRows.{word_at}
use Rattle.tele_audit.specs.WordLaws.{ZerosChangeNothing}
use Rattle.ist_rest.specs.RestingWords.{HasGoodBounds, AreLawful, BreaksFirstAt}
use Rattle.ist_rest.specs.Walks.{first_visit}
use Rattle.plain_map.specs.Rising.{IsRising}
use Rattle.tele_audit.specs.declared.flaws.Flaw.{Flaw}
use Rattle.tele_audit.specs.declared.flaws.Flaw.TheVariants.{Row}
use Rattle.tele_audit.specs.Dumps.{IsLawfulDump}
use Rattle.tele_audit.specs.Flaws.{number_encoded, numbers_in, count_told, used_told, dump_length, words_told, head_flaw, length_flaw, IsFirstFlaw}
use Rattle.tele_audit.specs.Taking.{AreBytes}
use Rattle.tele_audit.proofs.DumpLemmas.{IsGoodHead, good_head, good_length, length_told, bounds_told, told_lawfully, told_broken}
use Rattle.tele_audit.proofs.PairLemmas.{held_pairs_rise}

-- bytes whose head and length have no flaw, with their number of used words, and with these words
pub record AreRead (bytes : List ℕ) (used : ℕ) (words : List ℕ) : Type 0 where
  pub head : head_flaw bytes ≡ None
  pub whole : length_flaw bytes ≡ None
  pub count : used ≡ used_told bytes
  pub are : words ≡ words_told bytes

-- what is read after the first 16 bytes: the number of used words, and this many words
pub words_read : (bytes words now : List ℕ) (used : ℕ) → head_flaw bytes ≡ None
    → length_flaw bytes ≡ None → now ≡ bytes → used ≡ number_encoded (drop 16 now)
    → words ≡ numbers_in used (drop 16 bytes) → AreRead bytes used words
words_read bytes words now used head whole e f g = grind arith

module _ {bytes : List ℕ} {used : ℕ} {words : List ℕ} (read : AreRead bytes used words) where
  good : IsGoodHead bytes
  good = good_head bytes read.head

  exact : length bytes ≡ dump_length (used_told bytes)
  exact = good_length bytes read.whole

  -- there are more than two words
  pub read_long : 2 < length words
  read_long = grind (arith, length_told, good, exact)

  -- if the anchor is open, the words are in bounds
  pub read_bounds : word_at words anchor_status_place ≡ 0 → HasGoodBounds words
  read_bounds open_anchor = grind (arith, bounds_told, good, exact)

  -- if the words are lawful, the bytes are the dump of a lawful table with this report
  pub read_lawfully : ZerosChangeNothing → AreBytes bytes
      → ((place : ℕ) → word_at words place < 2 ^ 64) → (count : ℕ) (pairs : List Pair)
      → count ≡ count_told bytes → AreLawful words pairs
      → IsLawfulDump bytes record { words = count; used = used; pairs = pairs }
  read_lawfully zeros are fit count pairs same lawful = grind (arith, told_lawfully, good, exact)

  -- if the walk first breaks at a place, the first flaw of the bytes is that row
  pub read_broken : ZerosChangeNothing → word_at words anchor_status_place ≡ 0 → (place : ℕ)
      → BreaksFirstAt words [] (first_visit words ∷ []) place
      → (flaw : Flaw) → Row place ≡ flaw → IsFirstFlaw bytes flaw
  read_broken zeros open_anchor place first flaw same = subst (IsFirstFlaw bytes) same
      (told_broken bytes good exact zeros
      (subst (λ xs. word_at xs anchor_status_place ≡ 0) read.are open_anchor) read.head read.whole
      place (subst (λ xs. BreaksFirstAt xs [] (first_visit xs ∷ []) place) read.are first))

-- the pairs of lawful words have strictly increasing keys
pub lawful_pairs_rise : (words : List ℕ) (pairs : List Pair) → AreLawful words pairs → IsRising pairs
lawful_pairs_rise words pairs lawful = held_pairs_rise words pairs lawful.holds
