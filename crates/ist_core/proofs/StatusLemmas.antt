-- A status and its word: each gives the other.
use Rattle.std.proofs.Common.{◌≡◌, ℕ, ◌/◌, ◌%◌, ◌<◌, ◌≤◌, ◌≢◌, Bool, nat_lt, refl, arith}
use Rattle.std.specs.Prelude.{◌==◌, Some, None}
use Rattle.std.proofs.lemmas.Bool.Decides.{nat_tests}
use Rattle.ist_core.specs.WordTerms.{Status, Open, Marked, Finished, status_word, status_of, keys_limit}

-- the results of the four tests of a word
record HasTests (word : ℕ) (a b c d : Bool) : Type 0 where
  open_test : (word == 0) ≡ a
  marked_test : (word == 1) ≡ b
  finished_test : (word % 4 == 3) ≡ c
  keys_test : nat_lt (word / 4) keys_limit ≡ d

-- these are the results of the tests
tests : (word : ℕ)
    → HasTests word (word == 0) (word == 1) (word % 4 == 3) (nat_lt (word / 4) keys_limit)
tests word = record { open_test = refl; marked_test = refl; finished_test = refl; keys_test = refl }

-- ---- from a word

-- the word of an open node
pub status_of-open : status_of 0 ≡ Some Open
unfolding status_of
status_of-open = refl

-- the word of a marked node
pub status_of-marked : status_of 1 ≡ Some Marked
unfolding status_of
status_of-marked = refl

-- the word of a finished node
pub status_of-finished : (word : ℕ) → word % 4 ≡ 3 → word / 4 < keys_limit
    → status_of word ≡ Some (Finished (word / 4))
unfolding status_of
status_of-finished word h k = grind (arith, tests, nat_tests)

-- every other word
pub status_of-none : (word : ℕ) → word ≢ 0 → word ≢ 1 → (word % 4 ≡ 3 → keys_limit ≤ word / 4)
    → status_of word ≡ None
unfolding status_of
status_of-none word h k l = grind (arith, tests, nat_tests)

-- ---- back to the word

-- a status with few enough keys is read back from its word
pub status_of-finished_word : (k : ℕ) → k < keys_limit
    → status_of (status_word (Finished k)) ≡ Some (Finished k)
status_of-finished_word k h = grind (arith, status_of-finished)

-- what is read from a word has this word
pub status_word-status_of : (word : ℕ) (s : Status) → status_of word ≡ Some s → status_word s ≡ word
unfolding status_of
status_word-status_of word s e = grind (arith, tests, nat_tests)
