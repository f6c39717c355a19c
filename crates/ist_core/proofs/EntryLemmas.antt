-- Entries with strictly increasing bases are the entries of a finite map. Serves the maps of rows.
use Rattle.std.proofs.Common.{◌≡◌, ℕ, zero, suc, ◌+◌, ◌<◌, true, T, List, [], ◌∷◌, map, slice_index, refl, sym, subst, arith}
use Rattle.std.proofs.lemmas.Bool.Decides.{nat_tests}
use Rattle.std.specs.List.Sorted.{IsStrictlyIncreasing}
use Rattle.std.specs.Ordering.{nat_cmp}
use Rattle.std.specs.FinMap as fin

-- a strictly increasing list without its first number is strictly increasing
following : (x : ℕ) (xs : List ℕ) → IsStrictlyIncreasing (x ∷ xs) → IsStrictlyIncreasing xs
following x xs h k e = let place : suc k + 1 ≡ suc (k + 1) = omega arith in
    subst (λ n. slice_index xs k < slice_index (x ∷ xs) n) place (h (suc k) (omega arith))

-- a strictly increasing list without its second number is strictly increasing
skip : (x y : ℕ) (xs : List ℕ) → IsStrictlyIncreasing (x ∷ y ∷ xs) → IsStrictlyIncreasing (x ∷ xs)
skip x y xs h zero e = let first : x < y = h 0 (omega arith) in
    let second : y < slice_index xs 0 = h 1 (omega arith) in omega arith
skip x y xs h (suc k) e = let place : suc k + 1 ≡ suc (k + 1) = omega arith in
    subst (λ n. slice_index xs k < slice_index (x ∷ xs) n) (sym place)
    (following y xs (following x (y ∷ xs) h) k (omega arith))

module _ {X : Type 0} where
  above : (x : ℕ) (v : X) (es : List (ℕ × X)) → IsStrictlyIncreasing (x ∷ map (λ e. e.0) es)
      → fin.is_sorted nat_cmp ((x, v) ∷ es) ≡ true
  above x v [] h = refl
  above x v (e ∷ es) h = let first : x < e.0 = h 0 (omega arith) in
      let other = above e.0 e.1 es (following x (e.0 ∷ map (λ e. e.0) es) h) in
      let this = above x v es (skip x e.0 (map (λ e. e.0) es) h) in grind (arith, nat_tests)

  -- strictly increasing bases are sorted keys
  pub is_sorted-rising : (es : List (ℕ × X)) → IsStrictlyIncreasing (map (λ e. e.0) es)
      → fin.is_sorted nat_cmp es ≡ true
  is_sorted-rising [] h = refl
  is_sorted-rising (e ∷ es) h = above e.0 e.1 es h

  -- the map of sorted entries has these entries
  pub entries-from_sorted : (es : List (ℕ × X)) → fin.is_sorted nat_cmp es ≡ true
      → fin.entries (fin.from_sorted {R = nat_cmp} es) ≡ es
  entries-from_sorted es h = fin.entries-from_sorted nat_cmp es (subst T (sym h) tt)
