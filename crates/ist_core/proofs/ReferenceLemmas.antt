-- A good reference and its word: each gives the other.
use Rattle.std.proofs.Common.{◌≡◌, ℕ, ◌+◌, ◌*◌, ◌/◌, ◌%◌, ◌<◌, ◌≢◌, true, refl, arith}
use Rattle.std.specs.Prelude.{◌==◌, Some}
use Rattle.std.proofs.lemmas.Bool.Decides.{nat_tests}
use Rattle.ist_core.specs.WordTerms.{Ref, Empty, Unset, LeafAt, InnerAt, ChangeAt, RebuildAt, word_of, IsGoodBase, IsGoodRef, row_tagged, good_row_tagged, ref_of}

-- ---- from a word

-- no key
pub ref_of-empty : ref_of 0 ≡ Some Empty
unfolding ref_of
ref_of-empty = refl

-- a part that isn't built yet
pub ref_of-unset : ref_of 7 ≡ Some Unset
unfolding ref_of
ref_of-unset = refl

-- any other word is read as a tag and a base
pub ref_of-row : (word : ℕ) → word ≢ 0 → word ≢ 7
    → ref_of word ≡ good_row_tagged (word % 8) (word / 8)
unfolding ref_of
ref_of-row word h k = grind (arith, nat_tests)

-- at a good base only the tag decides
pub good_row_tagged-good : (tag base : ℕ) → IsGoodBase base
    → good_row_tagged tag base ≡ row_tagged tag base
good_row_tagged-good tag base good = grind (arith, nat_tests)

-- a row at a base with a tag is read back
ref_of-tagged : (tag base : ℕ) (ref : Ref) → IsGoodBase base → tag < 7
    → row_tagged tag base ≡ Some ref → ref_of (base * 8 + tag) ≡ Some ref
ref_of-tagged tag base ref good h e = grind (arith, ref_of-row, good_row_tagged-good)

-- a good reference is read back from its word
pub ref_of-word_of : (ref : Ref) → IsGoodRef ref → ref_of (word_of ref) ≡ Some ref
ref_of-word_of Empty good = ref_of-empty
ref_of-word_of Unset good = ref_of-unset
ref_of-word_of (LeafAt base) good = ref_of-tagged 1 base (LeafAt base) good (omega arith) refl
ref_of-word_of (InnerAt base) good = ref_of-tagged 2 base (InnerAt base) good (omega arith) refl
ref_of-word_of (ChangeAt base) good = ref_of-tagged 3 base (ChangeAt base) good (omega arith) refl
ref_of-word_of (RebuildAt base) good = ref_of-tagged 4 base (RebuildAt base) good (omega arith) refl

-- ---- back to the word

-- a reference that is read from a word is good, and has this word
pub record IsReadFrom (word : ℕ) (ref : Ref) : Type 0 where
  pub good : IsGoodRef ref
  pub same_word : word_of ref ≡ word

-- a row with this tag and base is read from their word
tagged_read : (tag known base : ℕ) (found ref : Ref) → (tag == known) ≡ true → IsGoodRef found
    → word_of found ≡ base * 8 + known → found ≡ ref → IsReadFrom (base * 8 + tag) ref
tagged_read tag known base found ref test good word same = grind (arith, nat_tests)

-- the row that the tag gives is read from the word of tag and base
row_read : (tag base : ℕ) (ref : Ref) → IsGoodBase base → row_tagged tag base ≡ Some ref
    → IsReadFrom (base * 8 + tag) ref
row_read tag base ref good e = grind (arith, tagged_read)

-- the row that the tag and the base of a word give is read from the word
good_row_read : (word : ℕ) (ref : Ref) → good_row_tagged (word % 8) (word / 8) ≡ Some ref
    → IsReadFrom word ref
good_row_read word ref e = grind (arith, nat_tests, row_read)

-- what is read from a word is good, and has this word
pub word_of-ref_of : (word : ℕ) (ref : Ref) → ref_of word ≡ Some ref → IsReadFrom word ref
unfolding ref_of
word_of-ref_of word ref e = grind (arith, nat_tests, good_row_read)
