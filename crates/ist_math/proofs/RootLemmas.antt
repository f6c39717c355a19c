-- The powers of two around a square root. Serves `shares`.
use Rattle.std.proofs.Common.{◌≡◌, ◌∙◌, ℕ, suc, ◌+◌, ◌-◌, ◌*◌, ◌/◌, ◌^◌, ◌<◌, ◌≤◌, ⊎_elim, sym, ap, subst, arith}
use Rattle.std.proofs.lemmas.Bool.{cases_lt}
use Rattle.std.proofs.lemmas.Nat.{pow-add, leading_top}
use Rattle.std.proofs.Math.Nat.{pow-le-pow_right}
use Rattle.std.specs.Int.Count.{count_leading_zeros}

-- half of the number's bits, but the first
abbrev pub half_bits : ℕ → ℕ
half_bits n = (63 - count_leading_zeros 64 n) / 2

-- 2 to the power of `bits` is at most the root, and twice that is above it
pub record IsAroundRoot (n bits : ℕ) : Type 0 where
  pub few : bits ≤ 15
  pub small : 2 ^ bits ≤ 2 ^ 15
  pub low : 2 ^ bits * 2 ^ bits ≤ n
  pub high : n < (2 * 2 ^ bits) * (2 * 2 ^ bits)

-- half the bits of a number are around its root
pub around_root : (n : ℕ) → 1 ≤ n → n < 2 ^ 32 → IsAroundRoot n (half_bits n)
around_root n some fits = let top = leading_top 64 n (omega arith) (omega arith) in
    subst (IsAroundRoot n) (let e : top.0 / 2 ≡ half_bits n = omega (arith, top.1) in e)
    (at top.0 top.2 top.3)
  where
    at : (j : ℕ) → 2 ^ j ≤ n → n < 2 ^ suc j → IsAroundRoot n (j / 2)
    at j above below =
        let short : j ≤ 31 =
        ⊎_elim (λ (h : j < 32). let k : j ≤ 31 = omega arith in k)
        (λ (h : 32 ≤ j).
        let far = pow-le-pow_right {n = 2} (omega arith) {i = 32} {j = j} h in absurd (omega arith))
        (cases_lt j 32) in
        let half : j / 2 + j / 2 ≤ j = omega arith in
        let more : suc j ≤ (1 + j / 2) + (1 + j / 2) = omega arith in
        let square = pow-add 2 (j / 2) (j / 2) in
        let under = pow-le-pow_right {n = 2} (omega arith) {i = j / 2 + j / 2} {j = j} half in
        let double : 2 ^ (1 + j / 2) ≡ 2 * 2 ^ (j / 2) = pow-add 2 1 (j / 2) in
        let over = pow-le-pow_right {n = 2} (omega arith) {i = suc j}
        {j = (1 + j / 2) + (1 + j / 2)} more in
        let wide = pow-add 2 (1 + j / 2) (1 + j / 2) in let whole = ap (λ k. k * k) double in
        let bits : j / 2 ≤ 15 = omega arith in record {
          few = bits;
          small = pow-le-pow_right {n = 2} (omega arith) {i = j / 2} {j = 15} bits;
          low = omega arith;
          high = omega arith;
        }
