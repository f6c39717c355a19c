-- Quotients by the first 64 bits of a number, and what is left. Serves `quotients`.
use Rattle.std.proofs.Common.{◌≡◌, ℕ, suc, ◌+◌, ◌-◌, ◌*◌, ◌/◌, ◌^◌, ◌<◌, ◌≤◌, sym, ap, subst, arith, mul-le-mul_left, mul-le-mul_right}
use Rattle.std.proofs.lemmas.Nat.{pow_pos, div_below, le-div, leading_top}
use Rattle.std.proofs.Math.Nat.{pow-suc, div-mul-le_self, div-le_self, mul_assoc, mul_comm, add-mul-div_left, lt_of_mul-lt-mul_right}
use Rattle.std.specs.Int.Count.{count_leading_zeros}

-- how many bits must be shifted away until a number has 64 bits, less one
abbrev pub shift_of : ℕ → ℕ
shift_of rest = 63 - count_leading_zeros 64 (rest / 2 ^ 64)

-- the number without those bits, and without the last
abbrev pub first_of : ℕ → ℕ → ℕ
first_of n shift = n / 2 / 2 ^ shift

-- a number that has more than 64 bits, and its first 64
pub record IsFirst (rest shift : ℕ) : Type 0 where
  pub fits : first_of rest shift < 2 ^ 64
  pub high : 2 ^ 63 ≤ first_of rest shift

-- the shift gives the first 64 bits
pub first_is : (rest : ℕ) → 2 ^ 64 ≤ rest → rest < 2 ^ 128 → IsFirst rest (shift_of rest)
first_is rest wide fits = let top = leading_top 64 (rest / 2 ^ 64) (omega arith) (omega arith) in
    subst (IsFirst rest) (let e : top.0 ≡ shift_of rest = omega (arith, top.1) in e)
    (at top.0 top.2 top.3)
  where
    at : (j : ℕ) → 2 ^ j ≤ rest / 2 ^ 64 → rest / 2 ^ 64 < 2 ^ suc j → IsFirst rest j
    at j low less = grind (arith, pow-suc, div_below, pow_pos, le-div)

-- the first 64 bits, divided by one more than the divisor's bits at the same places
abbrev pub low_quotient_of : ℕ → ℕ → ℕ → ℕ
low_quotient_of rest divisor shift = first_of rest shift / (first_of divisor shift + 1)

-- such a quotient is at most the whole one
pub low_quotient-le : (rest divisor shift : ℕ) → low_quotient_of rest divisor shift * divisor ≤ rest
low_quotient-le rest divisor shift = by (2 ^ shift) (pow_pos shift)
  where
    by : (unit : ℕ) → 0 < unit → rest / 2 / unit / (divisor / 2 / unit + 1) * divisor ≤ rest
    by unit some = at (rest / 2 / unit) (divisor / 2 / unit)
        (rest / 2 / unit / (divisor / 2 / unit + 1))
        (div-mul-le_self (rest / 2 / unit) (divisor / 2 / unit + 1))
        (div-mul-le_self (rest / 2) unit) (omega arith)
      where
        at : (first over q : ℕ) → q * (over + 1) ≤ first → first * unit ≤ rest / 2
            → divisor / 2 < unit * over + unit → q * divisor ≤ rest
        at first over q h k l = let whole : divisor ≤ (over + 1) * (2 * unit) = omega arith in
            let a = mul-le-mul_left q whole in let b = mul-le-mul_right (2 * unit) h in
            let e : q * ((over + 1) * (2 * unit)) ≡ q * (over + 1) * (2 * unit) =
            sym (mul_assoc q (over + 1) (2 * unit)) in
            omega arith

-- this quotient isn't 0, since the divisor has 64 bits, and fewer are at the places of the first
pub low_quotient-pos : (rest divisor shift : ℕ) → IsFirst rest shift → divisor < 2 ^ 64
    → 1 ≤ low_quotient_of rest divisor shift
low_quotient-pos rest divisor shift h fits = grind (arith, div-le_self, le-div)

-- what is left holds the divisor as often as the quotient so far is too low
pub rest_quotient : (product quotient divisor rest : ℕ) → 0 < divisor
    → product ≡ quotient * divisor + rest → quotient + rest / divisor ≡ product / divisor
rest_quotient product quotient divisor rest some e = let turned = mul_comm quotient divisor in
    let whole : rest + divisor * quotient ≡ product = omega arith in
    let more = add-mul-div_left rest quotient some in let same = ap (λ n. n / divisor) whole in
    omega arith

-- if the product is below 2^64 divisors, the number of divisors in it has 64 bits
pub quotient_fits : (product taken divisor : ℕ) → taken * divisor ≤ product
    → product < divisor * 2 ^ 64 → taken < 2 ^ 64
quotient_fits product taken divisor low fits = lt_of_mul-lt-mul_right divisor (omega arith)
