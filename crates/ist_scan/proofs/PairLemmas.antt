-- Pairs with strictly increasing keys, by their numbers. Serves the searches of `looking.rt`.
use Rattle.std.proofs.Common.{◌≡◌, ℕ, ◌<◌, List, [], ◌∷◌, zero, suc, map, length, slice_get, slice_index_or, Some, ap, arith}
use Rattle.std.specs.List.Sorted.{IsStrictlyIncreasing}
use Rattle.std.proofs.lemmas.List.Kept.{AllPairs-from_increasing}
use Rattle.ist_core.specs.declared.pairs.Pair.{Pair}

-- the key of a pair, in the list of all keys
key_at : (pairs : List Pair) (i : ℕ) (pair : Pair) → slice_get pairs i ≡ Some pair
    → (slice_index_or (map (λ p. p.key) pairs) i 0 ≡ pair.key) × (i < length (map (λ p. p.key) pairs))
key_at [] i pair at = cc
key_at (x ∷ pairs) zero pair at = let same : x ≡ pair = cc in (ap (λ p. p.key) same, omega arith)
key_at (x ∷ pairs) (suc i) pair at = let rest = key_at pairs i pair at in let low = rest.1 in
    (rest.0, omega arith)

-- of two pairs the first has the lower key
pub rise : (pairs : List Pair) → IsStrictlyIncreasing (map (λ p. p.key) pairs)
    → (i j : ℕ) (x y : Pair) → slice_get pairs i ≡ Some x → slice_get pairs j ≡ Some y → i < j
    → x.key < y.key
rise pairs rising i j x y at_i at_j below = grind (arith, AllPairs-from_increasing, key_at)
