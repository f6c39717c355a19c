-- Reading a numeral digit by digit. Serves `number`.
use Rattle.std.proofs.Common.{◌≡◌, ℕ, ◌+◌, ◌-◌, ◌*◌, ◌^◌, ◌<◌, ◌≤◌, true, false, List, [], ◌∷◌, length, refl, arith}
use Rattle.std.specs.Prelude.{◌&&◌, if◌then◌else◌, nat_lt, fold, Option, Some, None}
use Rattle.std.specs.List.{list_all}
use Rattle.std.specs.Char.{is_ascii_digit}
use Rattle.std.proofs.lemmas.Bool.{cases_lt, lt-ltb}
use Rattle.std.proofs.lemmas.Grind.{common_steps}
use Rattle.tele_lines.specs.Numerals.{numeral_value}

-- the value with one more digit appended
abbrev pub with_digit : ℕ → ℕ → ℕ
with_digit value digit = value * 10 + (digit - 48)

-- the number that digits denote when appended to a value, if it stays below 2 ^ 64
abbrev pub number_from : ℕ → List ℕ → Option ℕ
number_from value [] = Some value
number_from value (digit ∷ digits) =
    if is_ascii_digit digit && nat_lt (with_digit value digit) (2 ^ 64) then number_from
    (with_digit value digit) digits else None

-- digits only raise a value
pub fold_no_less : (digits : List ℕ) (value : ℕ) → value ≤ fold with_digit value digits
fold_no_less [] value = omega arith
fold_no_less (digit ∷ digits) value = omega (arith, fold_no_less digits (with_digit value digit))

-- the number computed at once, from a value on
abbrev number_at_once : ℕ → List ℕ → Option ℕ
number_at_once value digits =
    if list_all is_ascii_digit digits && nat_lt (fold with_digit value digits) (2 ^ 64) then Some
    (fold with_digit value digits) else None

no_number : (digits : List ℕ) (value : ℕ) → 2 ^ 64 ≤ value → number_at_once value digits ≡ None
no_number digits value h = grind (arith, fold_no_less, common_steps)

pub not_below : (m n : ℕ) → n ≤ m → nat_lt m n ≡ false
not_below m n h = grind (arith, common_steps)

-- a value that is small enough is read on from; any other is no number
after_digit : (value : ℕ) (digits : List ℕ)
    → (value < 2 ^ 64 → number_from value digits ≡ number_at_once value digits)
    → (if nat_lt value
    (2 ^ 64) then number_from value digits else None) ≡ number_at_once value digits
after_digit value digits goes_on = grind (arith, cases_lt, lt-ltb, not_below, no_number)

-- digit by digit is at once
pub number_from-at_once : (digits : List ℕ) (value : ℕ) → value < 2 ^ 64
    → number_from value digits ≡ number_at_once value digits
number_from-at_once [] value h = grind (arith, common_steps)
number_from-at_once (digit ∷ digits) value h =
    elim (is_ascii_digit digit) as (λ d.
    (if d && nat_lt (with_digit value digit) (2 ^ 64) then number_from
    (with_digit value digit) digits else None)
    ≡ (if (d && list_all is_ascii_digit digits) && nat_lt (fold with_digit value (digit ∷ digits))
    (2 ^ 64) then Some (fold with_digit value (digit ∷ digits)) else None)) [
      | false ↦ refl
      | true ↦ after_digit (with_digit value digit) digits
          (λ small. number_from-at_once digits (with_digit value digit) small)
    ]

-- some digits are read from 0 on
pub number_from-zero : (digits : List ℕ) → 0 < length digits
    → number_from 0 digits ≡ numeral_value digits
number_from-zero digits some = grind (arith, lt-ltb, number_from-at_once)
