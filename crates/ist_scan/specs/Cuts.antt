-- Where a key or an interval cuts a list of pairs.
use Rattle.std.specs.Prelude.{◌≡◌, ℕ, ◌+◌, ◌*◌, ◌^◌, ◌<◌, ◌≤◌, ◌-◌, List, length, take, drop, slice_get, Some}
use Rattle.ist_core.specs.declared.pairs.Pair.{Pair}
use Rattle.ist_core.specs.Map.{pairs_between}

-- the pairs from number `low` on, up to the one before `high`
abbrev pub slice_of : List Pair → ℕ → ℕ → List Pair
slice_of pairs low high = take (high - low) (drop low pairs)

-- the first `count` of the pairs have keys below this one, and the others don't
pub record CutsAt (pairs : List Pair) (key count : ℕ) : Type 0 where
  pub within : count ≤ length pairs
  pub below : (i : ℕ) (pair : Pair) → i < count → slice_get pairs i ≡ Some pair → pair.key < key
  pub above : (i : ℕ) (pair : Pair) → count ≤ i → slice_get pairs i ≡ Some pair → key ≤ pair.key

-- the pairs from number `low` on, up to the one before `high`, are the pairs with keys from `from`
-- on and below `to`
pub record IsCut (pairs : List Pair) (from to low high : ℕ) : Type 0 where
  pub order : low ≤ high
  pub within : high ≤ length pairs
  pub between : pairs_between from (to - 1) pairs ≡ slice_of pairs low high

-- a search for the place of a key is between two numbers: the pairs below the first have lower
-- keys, and the pairs from the second on don't
pub record IsSearchBetween (pairs : List Pair) (key low high : ℕ) : Type 0 where
  pub below : (i : ℕ) (pair : Pair) → i < low → slice_get pairs i ≡ Some pair → pair.key < key
  pub above : (i : ℕ) (pair : Pair) → high ≤ i → slice_get pairs i ≡ Some pair → key ≤ pair.key

-- a search by halving among `keys` pairs has made `looks` looks, and `left` pairs are left to it
pub record IsHalved (keys looks left : ℕ) : Type 0 where
  pub shrunk : 2 ^ looks * left ≤ keys
  pub few : 2 ^ looks ≤ 2 * keys + 1
