-- How a gallop goes on, and how many looks it makes. Serves `gallops` and `laws`.
use Rattle.std.proofs.Common.{◌≡◌, ℕ, zero, suc, ◌+◌, ◌-◌, ◌*◌, ◌/◌, ◌^◌, ◌<◌, ◌≤◌, Bool, true, false, cond, not, arith, mul-le-mul_right}
use Rattle.std.proofs.lemmas.Bool.{cases_lt}
use Rattle.std.proofs.lemmas.Bool.Decides.{nat_tests}
use Rattle.std.proofs.lemmas.Nat.{pow_pos, pow_below, div_below}
use Rattle.std.proofs.Math.Nat.{pow-suc, div-le_of_le-mul, mul_comm, mul-lt-mul_of_pos_right}
use Rattle.ist_math.specs.declared.gallops.Gallop.{Gallop}
use Rattle.ist_math.specs.Guess.{distance, guess_of}
use Rattle.ist_math.specs.Gallops.{width, probe_of, next_step_of, least_distance, IsOnSide, Gallops}

-- ---- what a look shows

-- a gallop, by its fields
abbrev pub gallop : ℕ → ℕ → ℕ → Bool → Gallop
gallop low high step down = record { low = low; high = high; step = step; down = down }

-- the side doesn't change as the two keys come nearer
side_stays : (low high step nearer above next guess : ℕ) (down : Bool) → low ≤ nearer → above ≤ high
    → IsOnSide (gallop low high step down) guess → IsOnSide (gallop nearer above next down) guess
side_stays low high step nearer above next guess true h l s = omega arith
side_stays low high step nearer above next guess false h l s = omega arith

-- a look at the middle, between two keys of which one takes its place
halved : (g : Gallop) (guess looks low high : ℕ) → Gallops g guess looks → width g ≤ g.step
    → g.low + 1 < g.high → g.low ≤ low → high ≤ g.high → low < high
    → high - low ≤ width g - width g / 2 → Gallops (gallop low high g.step g.down) guess (suc looks)
halved g guess looks low high h over between up down some half = let steps = h.steps in
    let far = h.far in let near = h.near over in at h.halvings near.0 near.1
  where
    at : (t : ℕ) → width g ≤ 2 ^ t → looks + t ≤ 2 * h.doublings + 2
        → Gallops (gallop low high g.step g.down) guess (suc looks)
    at zero wide few = absurd (omega arith)
    at (suc t) wide few = grind (arith, pow-suc, side_stays)

-- the side to which a step goes, and the other one
module _ (low high step guess looks : ℕ) (less : step < high - low) where
  -- a step that goes on is doubled
  goes_down : Gallops (gallop low high step true) guess looks
      → Gallops (gallop low (high - step) (2 * step) true) guess (suc looks)
  goes_down h = let double = pow-suc 2 h.doublings in let away = h.away less in let is = away.0 in
      let count = away.1 in let far = h.far in let steps = h.steps in
      let side : high ≤ guess = h.side in record {
        doublings = suc h.doublings;
        halvings = suc h.doublings;
        some = omega arith;
        steps = omega arith;
        side = omega arith;
        far = omega arith;
        away = λ _. (omega arith, omega arith);
        near = λ wide. (omega arith, omega arith);
      }

  goes_up : Gallops (gallop low high step false) guess looks
      → Gallops (gallop (low + step) high (2 * step) false) guess (suc looks)
  goes_up h = let double = pow-suc 2 h.doublings in let away = h.away less in let is = away.0 in
      let count = away.1 in let far = h.far in let steps = h.steps in
      let side : guess ≤ low = h.side in record {
        doublings = suc h.doublings;
        halvings = suc h.doublings;
        some = omega arith;
        steps = omega arith;
        side = omega arith;
        far = omega arith;
        away = λ _. (omega arith, omega arith);
        near = λ wide. (omega arith, omega arith);
      }

  -- a step that passed the key has as much before it as it is long
  passed_down : Gallops (gallop low high step true) guess looks
      → Gallops (gallop (high - step) high step true) guess (suc looks)
  passed_down h = grind arith

  passed_up : Gallops (gallop low high step false) guess looks
      → Gallops (gallop low (low + step) step false) guess (suc looks)
  passed_up h = grind arith

-- a step to a key that is above the one that is sought, and to one that isn't
step_above : (down : Bool) (low high step guess looks : ℕ) → step < high - low
    → Gallops (gallop low high step down) guess looks
    → Gallops (gallop low (cond down (high - step) (low + step)) (cond down (2 * step) step) down)
    guess (suc looks)
step_above true low high step guess looks less h = goes_down low high step guess looks less h
step_above false low high step guess looks less h = passed_up low high step guess looks less h

step_below : (down : Bool) (low high step guess looks : ℕ) → step < high - low
    → Gallops (gallop low high step down) guess looks
    → Gallops (gallop (cond down (high - step) (low + step)) high
    (cond (not down) (2 * step) step) down) guess (suc looks)
step_below true low high step guess looks less h = passed_down low high step guess looks less h
step_below false low high step guess looks less h = goes_up low high step guess looks less h

module _ (g : Gallop) (guess looks : ℕ) (h : Gallops g guess looks) (between : g.low + 1 < g.high) where
  told_above : Gallops (gallop g.low (probe_of g) (next_step_of g g.down) g.down) guess (suc looks)
  told_above = grind (arith, nat_tests, step_above, halved)

  told_below : Gallops (gallop (probe_of g) g.high (next_step_of g (not g.down)) g.down) guess
      (suc looks)
  told_below = grind (arith, nat_tests, step_below, halved)

  -- what a look shows: the key at the probe is above the one that is sought
  pub goes_above : (at step : ℕ) → at ≡ probe_of g → step ≡ next_step_of g g.down
      → Gallops (gallop g.low at step g.down) guess (suc looks)
  goes_above at step e f = grind (arith, told_above)

  -- what a look shows: the key at the probe is at most the one that is sought
  pub goes_below : (at step : ℕ) → at ≡ probe_of g → step ≡ next_step_of g (not g.down)
      → Gallops (gallop at g.high step g.down) guess (suc looks)
  goes_below at step e f = grind (arith, told_below)

-- ---- how many looks

-- twice a number is at most its power of two
twice-le_pow : (n : ℕ) → 2 * n ≤ 2 ^ n
twice-le_pow zero = omega arith
twice-le_pow (suc zero) = omega arith
twice-le_pow (suc (suc n)) = let so_far = twice-le_pow (suc n) in let double = pow-suc 2 (suc n) in
    let some = pow_pos n in let first = pow-suc 2 n in omega arith

-- a power that is at most another has no larger exponent
exponent-le : (i k : ℕ) → 2 ^ i ≤ 2 ^ k → i ≤ k
exponent-le i k h = grind (arith, pow_below, cases_lt)

-- twice the doublings, and two more
looks-doublings : (g : Gallop) (guess looks : ℕ) (h : Gallops g guess looks)
    → looks ≤ 2 * h.doublings + 2
looks-doublings g guess looks h = grind (arith, cases_lt)

-- at most three more than the guess lies off
pub looks-near : (g : Gallop) (guess looks : ℕ) → Gallops g guess looks
    → looks ≤ least_distance g guess + 3
looks-near g guess looks h = grind (arith, looks-doublings, twice-le_pow)

-- at most two for each bit of it, and two
looks-far : (g : Gallop) (guess looks : ℕ) → Gallops g guess looks → (k : ℕ)
    → least_distance g guess < 2 ^ k → looks ≤ 2 * k + 2
looks-far g guess looks h k less = grind (arith, looks-doublings, exponent-le)

-- a gallop that has ended made at most three looks more than the distance from its guess to the
-- child
pub end-near : (g : Gallop) (guess looks : ℕ) → Gallops g guess looks → g.low + 1 ≡ g.high
    → looks ≤ distance guess g.high + 3
end-near g guess looks h e = let near = looks-near g guess looks h in omega arith

-- a gallop that has ended made at most two looks for each bit of that distance, and two more
pub end-far : (g : Gallop) (guess looks : ℕ) → Gallops g guess looks → g.low + 1 ≡ g.high → (k : ℕ)
    → distance guess g.high < 2 ^ k → looks ≤ 2 * k + 2
end-far g guess looks h e k less = looks-far g guess looks h k (omega arith)

-- ---- the value of the guess.

-- a share of k, by a part of a whole, is at most k
pub share-le : (part whole k : ℕ) → part ≤ whole → part * k / whole ≤ k
share-le part whole k h = div-le_of_le-mul whole (mul-le-mul_right k h)

-- the guess is at most the number of keys
pub guess_of-le : (first last m x : ℕ) → 1 ≤ m → guess_of first last m x ≤ m
guess_of-le first last m x h = grind (arith, nat_tests, share-le)

-- a share of k is less than k, if the part is less than the whole
share-lt : (part whole k : ℕ) → part < whole → 0 < k → part * k / whole < k
share-lt part whole k h some = grind (arith, mul-lt-mul_of_pos_right, mul_comm, div_below)

-- between the end keys it is one of them, and not the first
pub guess_of-between : (first last m x : ℕ) → 2 ≤ m → first ≤ x → x < last
    → (1 ≤ guess_of first last m x) × (guess_of first last m x < m)
guess_of-between first last m x some low less = grind (arith, nat_tests, share-lt)
