-- The words of a line, from its front. Serves the reading of words.
use Rattle.std.proofs.Common.{◌≡◌, ℕ, suc, ◌+◌, ◌<◌, true, false, List, [], ◌∷◌, length, take, drop, refl, sym, ◌∙◌, ap, subst, arith, cond, not}
use Rattle.std.specs.Prelude.{nat_lt}
use Rattle.std.specs.List.{position_or_len, slice_split, onto_first, filter}
use Rattle.std.proofs.lemmas.Bool.{lt-ltb}
use Rattle.std.proofs.Math.Numerals.{one-add}
use Rattle.std.proofs.lemmas.List.Splits.{slice_split-cons_yes, slice_split-cons_no}
use Rattle.tele_lines.specs.Lines.{is_blank, words_in_line}
use Rattle.tele_lines.specs.Words.{BeginsWord}

-- the pieces that are words
abbrev some_words : List (List ℕ) → List (List ℕ)
some_words pieces = filter (λ word. nat_lt 0 (length word)) pieces

-- a blank at the front is in no word
pub words-blank : (byte : ℕ) (bytes : List ℕ) → is_blank byte ≡ true
    → words_in_line (byte ∷ bytes) ≡ words_in_line bytes
words-blank byte bytes is = ap some_words (slice_split-cons_yes is_blank byte bytes is)

-- a piece with a byte is a word
some-cons : (byte : ℕ) (bytes : List ℕ) (pieces : List (List ℕ))
    → some_words ((byte ∷ bytes) ∷ pieces) ≡ (byte ∷ bytes) ∷ some_words pieces
some-cons byte bytes pieces = grind (arith, lt-ltb)

-- one more byte at the front of the first word
longer : (byte next : ℕ) (pieces : List (List ℕ)) (word : List ℕ) (others : List (List ℕ))
    → some_words (onto_first next pieces) ≡ (next ∷ word) ∷ others
    → some_words (onto_first byte (onto_first next pieces)) ≡ (byte ∷ next ∷ word) ∷ others
longer byte next [] word others is = grind (arith, some-cons)
longer byte next (piece ∷ pieces) word others is = grind (arith, some-cons)

-- the first word of bytes that follow one that isn't blank: up to the first blank
first_word : (byte : ℕ) (bytes : List ℕ) → some_words (onto_first byte (slice_split is_blank bytes))
    ≡ (byte ∷ take (position_or_len is_blank bytes) bytes) ∷ words_in_line (drop (position_or_len is_blank bytes) bytes)
first_word byte [] = refl
first_word byte (next ∷ bytes) =
    elim (is_blank next) as (λ b. is_blank next ≡ b
    → some_words
    (onto_first byte (cond b ([] ∷ slice_split is_blank bytes) (onto_first next (slice_split is_blank bytes))))
    ≡ (byte ∷ take (cond (not b) (1 + position_or_len is_blank bytes) 0) (next ∷ bytes))
    ∷ words_in_line (drop (cond (not b) (1 + position_or_len is_blank bytes) 0) (next ∷ bytes))) [
      | true ↦ λ blank. ap (λ others. (byte ∷ []) ∷ others) (sym (words-blank next bytes blank))
      | false ↦ λ _. rw one-add (longer byte next (slice_split is_blank bytes) _ _ (first_word next bytes))
    ] refl

-- the same, of the bytes themselves
pub words-first : (bytes : List ℕ) (k : ℕ) → position_or_len is_blank bytes ≡ k → BeginsWord bytes
    → 0 < length bytes → words_in_line bytes ≡ take k bytes ∷ words_in_line (drop k bytes)
words-first [] k is begins some = absurd (omega arith)
words-first (byte ∷ bytes) k is begins some = let p = position_or_len is_blank bytes in
    let there : suc p ≡ k = sym (one-add p) ∙ sym (ap (λ b. cond (not b) (1 + p) 0) begins) ∙ is in
    subst (λ n. words_in_line (byte ∷ bytes) ≡ take n (byte ∷ bytes) ∷ words_in_line (drop n (byte ∷ bytes))) there
    (ap some_words (slice_split-cons_no is_blank byte bytes begins) ∙ first_word byte bytes)
