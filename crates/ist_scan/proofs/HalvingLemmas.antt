-- A search by halving. Serves `looking.count_below`.
use Rattle.std.proofs.Common.{◌≡◌, ℕ, ◌+◌, ◌*◌, ◌^◌, ◌<◌, ◌≤◌, ◌⊎◌, ◌-◌, zero, suc, List, map, length, slice_get, Some, ap, ◌∙◌, add-one, arith}
use Rattle.std.specs.List.Sorted.{IsStrictlyIncreasing}
use Rattle.std.proofs.Math.Nat.{mul-le-mul_left, pow-suc}
use Rattle.std.proofs.lemmas.Option.{slice_get_within}
use Rattle.std.proofs.lemmas.Bool.Decides.{eqb_tells}
use Rattle.ist_core.specs.declared.pairs.Pair.{Pair}
use Rattle.ist_scan.specs.Cuts.{IsSearchBetween, IsHalved}
use Rattle.ist_scan.proofs.PairLemmas.{rise}

-- at first the search is between 0 and the number of pairs
pub between_all : (pairs : List Pair) (key keys : ℕ) → length pairs ≡ keys
    → IsSearchBetween pairs key 0 keys
between_all pairs key keys long = grind (arith, slice_get_within)

-- a number below the next one, and one that isn't below
at_or_below : (i m : ℕ) → i < m + 1 → (i ≡ m) ⊎ (i < m)
at_or_below i m low = grind (arith, eqb_tells)

at_or_above : (i m : ℕ) → m ≤ i → (i ≡ m) ⊎ (m < i)
at_or_above i m high = grind (arith, eqb_tells)

module _ (pairs : List Pair) (rising : IsStrictlyIncreasing (map (λ p. p.key) pairs))
    (key low high middle : ℕ) (x : Pair) (b : IsSearchBetween pairs key low high)
    (at : slice_get pairs middle ≡ Some x) where
  -- the middle pair has a lower key
  pub go_up : x.key < key → IsSearchBetween pairs key (middle + 1) high
  go_up less = grind (arith, rise, at_or_below)

  -- if the bound is at most the key in the middle, the search goes down
  pub go_down : key ≤ x.key → IsSearchBetween pairs key low middle
  go_down more = grind (arith, rise, at_or_above)

-- ---- how many looks it takes

-- at first no look was made
pub none_made : (keys high : ℕ) → high ≡ keys → IsHalved keys 0 (high - 0)
none_made keys high all = record { shrunk = omega arith; few = omega arith }

-- a power of two is above its exponent
power_above : (looks : ℕ) → looks < 2 ^ looks
power_above zero = omega arith
power_above (suc looks) = let before = power_above looks in let next = pow-suc 2 looks in
    omega (arith, before, next)

-- the power so far, if something is left
power_within : (keys looks left : ℕ) → 0 < left → IsHalved keys looks left → 2 ^ looks ≤ keys
power_within keys looks left some h = grind (arith, mul-le-mul_left)

-- one look more leaves no more than half
pub one_more : (keys looks low high less : ℕ) → low < high → IsHalved keys looks (high - low)
    → less + less ≤ high - low → IsHalved keys (looks + 1) less
one_more keys looks low high less some h half =
    let within = power_within keys looks (high - low) (omega arith) h in let shrunk = h.shrunk in
    let next : 2 ^ (looks + 1) ≡ 2 ^ looks * 2 = ap (λ n. 2 ^ n) (add-one looks) ∙ pow-suc 2 looks in
    let double = mul-le-mul_left {m = less + less} {n = high - low} (2 ^ looks) half in
    record { shrunk = rw next (omega (arith, double, shrunk)); few = omega (arith, within, next) }

-- the number of looks stays below the number of keys
pub looks_fit : (keys looks low high : ℕ) → low < high → IsHalved keys looks (high - low) → looks + 1 ≤ keys
looks_fit keys looks low high some h = grind (arith, power_within, power_above)
