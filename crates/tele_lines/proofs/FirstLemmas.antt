-- Where the first byte of a kind is. Serves the words of a line and the cutting of lines.
use Rattle.std.proofs.Common.{◌≡◌, ℕ, Bool, true, false, List, length, refl, arith}
use Rattle.std.specs.Prelude.{Option, Some, None, unwrap_or}
use Rattle.std.specs.List.{position_or_len}
use Rattle.std.proofs.lemmas.List.Sums.{position_or_len_is}
use Rattle.memchr.specs.Find.{IsFirstByte}

-- what is not true is false
pub is_false : (b : Bool) → ¬ (b ≡ true) → b ≡ false
is_false true h = absurd (h refl)
is_false false h = refl

-- the first place that passes, or the length if none does
pub first_place : (test : ℕ → Bool) (bytes : List ℕ) (r : Option ℕ) → IsFirstByte test bytes r
    → position_or_len test bytes ≡ unwrap_or r (length bytes)
first_place test bytes (Some k) h = grind (arith, position_or_len_is, is_false)
first_place test bytes None h = position_or_len_is test bytes (length bytes) 0 (omega arith)
    (λ i below. is_false _ (h i (omega arith) below)) (λ impossible. absurd (omega arith))
