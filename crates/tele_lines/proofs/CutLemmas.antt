-- Cutting lines off the front of bytes. Serves the reader.
use Rattle.std.proofs.Common.{◌≡◌, ℕ, suc, ◌+◌, ◌<◌, true, false, List, [], ◌∷◌, ◌++◌, length, take, drop, refl, ◌∙◌, ap, subst, arith, add-one, cond, not}
use Rattle.std.specs.Prelude.{◌==◌, if◌then◌else◌}
use Rattle.std.specs.List.{position_or_len, onto_first}
use Rattle.tele_lines.specs.Lines.{newline, lines_of, onto_whole, whole_lines}
use Rattle.tele_lines.specs.Buffers.{is_newline, IsUnbroken}

-- one more byte at the front makes the first line longer
first_longer : (byte : ℕ) (bytes others : List ℕ) (k : ℕ)
    → lines_of (bytes ++ others) ≡ take k bytes ∷ lines_of (drop (k + 1) bytes ++ others)
    → onto_first byte (lines_of (bytes ++ others)) ≡ (byte ∷ take k bytes) ∷ lines_of
    (drop (suc k) bytes ++ others)
first_longer byte bytes others k is = grind arith

-- the first line ends at the first newline
pub cut_first : (bytes others : List ℕ) (k : ℕ) → position_or_len is_newline bytes ≡ k
    → k < length bytes
    → lines_of (bytes ++ others) ≡ take k bytes ∷ lines_of (drop (k + 1) bytes ++ others)
cut_first [] others k is below = absurd (omega arith)
cut_first (byte ∷ bytes) others k is below =
    elim (byte == newline) as (λ b. cond (not b) (1 + position_or_len is_newline bytes) 0 ≡ k
    → (if b then [] ∷ lines_of (bytes ++ others) else onto_first byte (lines_of (bytes ++ others)))
    ≡ take k (byte ∷ bytes) ∷ lines_of (drop (k + 1) (byte ∷ bytes) ++ others)) [
      | true ↦ λ e. subst
          (λ n. [] ∷ lines_of (bytes ++ others) ≡ take n (byte ∷ bytes) ∷ lines_of
          (drop (n + 1) (byte ∷ bytes) ++ others)) e refl
      | false ↦ λ e. let p = position_or_len is_newline bytes in let e' : suc p ≡ k = omega arith in
          let less : p < length bytes = omega arith in
          subst (λ n. onto_first byte (lines_of (bytes ++ others)) ≡ take n
          (byte ∷ bytes) ∷ lines_of (drop (n + 1) (byte ∷ bytes) ++ others)) e'
          (rw add-one (first_longer byte bytes others p (cut_first bytes others p refl less)))
    ] is

-- one more byte at the front of a line that a newline ends
whole_longer : (byte : ℕ) (bytes more : List ℕ) (k : ℕ)
    → whole_lines (take (k + 1) bytes ++ more) ≡ take k bytes ∷ whole_lines more
    → onto_whole byte (whole_lines (take (suc k) bytes ++ more)) ≡
    (byte ∷ take k bytes) ∷ whole_lines more
whole_longer byte bytes more k is = grind arith

-- up to the first newline there is one line that a newline ends
pub whole_first : (bytes more : List ℕ) (k : ℕ) → position_or_len is_newline bytes ≡ k
    → k < length bytes → whole_lines (take (k + 1) bytes ++ more) ≡ take k bytes ∷ whole_lines more
whole_first [] more k is below = absurd (omega arith)
whole_first (byte ∷ bytes) more k is below =
    let P : ℕ → Type 0 =
    λ n. whole_lines (take (n + 1) (byte ∷ bytes) ++ more) ≡ take n
    (byte ∷ bytes) ∷ whole_lines more in
    elim (byte == newline) as
    (λ b. cond (not b) (1 + position_or_len is_newline bytes) 0 ≡ k → byte == newline ≡ b
    → P k) [
      | true ↦ λ e is_end. subst P e
          (ap (λ b. if b then [] ∷ whole_lines more else onto_whole byte (whole_lines more)) is_end)
      | false ↦ λ e no_end. let p = position_or_len is_newline bytes in
          let next : suc p ≡ k = omega arith in let less : p < length bytes = omega arith in
          let here = whole_longer byte bytes more p (whole_first bytes more p refl less) in
          subst P next
          (rw add-one
          (ap (λ b. if b then [] ∷ whole_lines (take (suc p) bytes ++ more) else onto_whole byte
          (whole_lines (take (suc p) bytes ++ more))) no_end ∙ here))
    ] is refl

-- bytes without a newline are one line, or none
last_or_none : (byte : ℕ) (bytes : List ℕ) → IsUnbroken bytes
    → onto_first byte (lines_of bytes) ≡ (byte ∷ bytes) ∷ []
last_or_none byte [] is = refl
last_or_none byte (next ∷ bytes) is = elim (next == newline) as
    (λ b. cond (not b) (1 + position_or_len is_newline bytes) 0 ≡ length (next ∷ bytes)
    → onto_first byte (if b then [] ∷ lines_of bytes else onto_first next (lines_of bytes)) ≡
    (byte ∷ next ∷ bytes) ∷ []) [
      | true ↦ λ e. absurd (omega arith)
      | false ↦ λ e. ap (onto_first byte) (last_or_none next bytes (omega arith))
    ] is

-- bytes without a newline are one line
pub cut_last : (bytes : List ℕ) → IsUnbroken bytes → 0 < length bytes → lines_of bytes ≡ bytes ∷ []
cut_last [] is some = absurd (omega arith)
cut_last (byte ∷ bytes) is some = grind (arith, last_or_none)

-- a first line that begins with these bytes, and the lines after it
abbrev BeginsWithBytes : List ℕ → List (List ℕ) → Type 0
BeginsWithBytes start lines = (more : List ℕ) × (others : List (List ℕ)) × (lines ≡ (start ++ more) ∷ others)

-- a byte that goes onto the first line begins it
begins_one : (byte : ℕ) (lines : List (List ℕ)) → BeginsWithBytes (byte ∷ []) (onto_first byte lines)
begins_one byte [] = ([], [], refl)
begins_one byte (line ∷ lines) = (line, lines, refl)

-- a byte followed by bytes without a newline also begins the first line
begins_all : (byte : ℕ) (bytes others : List ℕ) → IsUnbroken bytes
    → BeginsWithBytes (byte ∷ bytes) (onto_first byte (lines_of (bytes ++ others)))
begins_all byte [] others is = begins_one byte (lines_of others)
begins_all byte (next ∷ bytes) others is = elim (next == newline) as
    (λ b. cond (not b) (1 + position_or_len is_newline bytes) 0 ≡ length (next ∷ bytes)
    → BeginsWithBytes (byte ∷ next ∷ bytes)
    (onto_first byte
    (if b then [] ∷ lines_of (bytes ++ others) else onto_first next (lines_of (bytes ++ others))))) [
      | true ↦ λ e. absurd (omega arith)
      | false ↦ λ e. let p =
          begins_all next bytes others (omega arith) in (p.0, p.1, ap (onto_first byte) p.2)
    ] is

-- bytes without a newline begin the first line
pub cut_long : (bytes others : List ℕ) → IsUnbroken bytes → 0 < length bytes
    → (more : List ℕ) × (rest : List (List ℕ)) ×
    (lines_of (bytes ++ others) ≡ (bytes ++ more) ∷ rest)
cut_long [] others is some = absurd (omega arith)
cut_long (byte ∷ bytes) others is some = elim (byte == newline) as
    (λ b. cond (not b) (1 + position_or_len is_newline bytes) 0 ≡ length (byte ∷ bytes)
    → BeginsWithBytes (byte ∷ bytes)
    (if b then [] ∷ lines_of (bytes ++ others) else onto_first byte (lines_of (bytes ++ others)))) [
      | true ↦ λ e. absurd (omega arith)
      | false ↦ λ e. begins_all byte bytes others (omega arith)
    ] is

-- bytes without a newline have no line that a newline ends
pub no_whole : (bytes : List ℕ) → IsUnbroken bytes → whole_lines bytes ≡ []
no_whole [] is = refl
no_whole (byte ∷ bytes) is = elim (byte == newline) as
    (λ b. cond (not b) (1 + position_or_len is_newline bytes) 0 ≡ length (byte ∷ bytes)
    → (if b then [] ∷ whole_lines bytes else onto_whole byte (whole_lines bytes)) ≡ []) [
      | true ↦ λ e. absurd (omega arith)
      | false ↦ λ e. ap (onto_whole byte) (no_whole bytes (omega arith))
    ] is
