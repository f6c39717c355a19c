-- The keys of pairs, each by its number. Serves `logs.rt`.
use Rattle.std.proofs.Common.{◌≡◌, ◌≤◌, ◌<◌, ◌+◌, ◌-◌, ◌⊎◌, ℕ, List, length, map, slice_index, get_or, sym, subst, ⊎_elim, arith}
use Rattle.std.proofs.lemmas.List.{get_or-map, length-map}
use Rattle.std.specs.List.Sorted.{IsStrictlyIncreasing}
use Rattle.ist_core.specs.declared.pairs.Pair.{Pair}

-- the keys of the pairs
abbrev pub keys_of : List Pair → List ℕ
keys_of pairs = map (λ pair. pair.key) pairs

-- a pair without meaning
abbrev pub no_pair : Pair
no_pair = record { key = 0; value = 0 }

module _ (pairs : List Pair) where
  -- the key at a place is the key of the pair there
  key_at : (i : ℕ) → i < length pairs → slice_index (keys_of pairs) i ≡ (get_or pairs i no_pair).key
  key_at i low = get_or-map (λ pair. pair.key) pairs i no_pair 0 low

  -- if one key isn't below the next, they aren't strictly increasing
  pub not_rising : (i : ℕ) → 1 ≤ i → i < length pairs → (get_or pairs i no_pair).key ≤
      (get_or pairs (i - 1) no_pair).key → ¬ (IsStrictlyIncreasing (keys_of pairs))
  not_rising i some low over rise = let long = length-map pairs (λ pair. pair.key) in
      let up = rise (i - 1) (omega arith) in let next : i - 1 + 1 ≡ i = omega arith in
      let up_to : slice_index (keys_of pairs) (i - 1) < slice_index (keys_of pairs) i = subst
      (λ n. slice_index (keys_of pairs) (i - 1) < slice_index (keys_of pairs) n) next up in
      let a = key_at (i - 1) (omega arith) in let b = key_at i low in omega arith

  -- keys that increase up to one increase up to the next, if that is higher
  pub rising_more : (i : ℕ) → 1 ≤ i → i < length pairs → (get_or pairs (i - 1) no_pair).key <
      (get_or pairs i no_pair).key
      → ((k : ℕ) → k + 1 < i → slice_index (keys_of pairs) k < slice_index (keys_of pairs) (k + 1))
      → (k : ℕ) → k + 1 < i + 1 → slice_index (keys_of pairs) k < slice_index (keys_of pairs)
      (k + 1)
  rising_more i some low up before k less = ⊎_elim (λ h. before k h) (λ h. here h) split
    where
      split : (k + 1 < i) ⊎ (k ≡ i - 1)
      split = grind arith

      here : k ≡ i - 1 → slice_index (keys_of pairs) k < slice_index (keys_of pairs) (k + 1)
      here is = let next : k + 1 ≡ i = omega arith in let a = key_at (i - 1) (omega arith) in
          let b = key_at i low in
          let up_to : slice_index (keys_of pairs) (i - 1) < slice_index (keys_of pairs) i = omega
          arith in
          subst (λ n. slice_index (keys_of pairs) k < slice_index (keys_of pairs) n) (sym next)
          (subst (λ n. slice_index (keys_of pairs) n < slice_index (keys_of pairs) i) (sym is)
          up_to)
