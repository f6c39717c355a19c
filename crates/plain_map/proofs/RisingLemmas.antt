-- Lists of pairs with increasing keys, place by place.
use Rattle.std.proofs.Common.{◌≡◌, ℕ, zero, suc, ◌+◌, ◌<◌, List, [], ◌∷◌, length, slice_index, refl, ◌≢◌, ◌==◌, map, get_or, set, if◌then◌else◌, Option, Some, None, ◌∙◌, arith, ◌≤◌, Bool, true, false, not, nat_lt, nat_le, ◌&&◌, take, drop, ap}
use Rattle.std.proofs.lemmas.List.{length-map, get_or_default, get_or-drop, length-drop}
use Rattle.std.proofs.lemmas.List.Kept.{AllPairs-from_increasing}
use Rattle.ist_core.specs.declared.pairs.Pair.{Pair}
use Rattle.plain_map.specs.Rising.{keys_of, IsRising}
use Rattle.plain_map.specs.Place.{key_at, IsAt}
use Rattle.std.specs.FinMap.{find}
use Rattle.std.specs.List.{insert, remove, filter}
use Rattle.std.specs.Ordering.{nat_cmp}
use Rattle.std.specs.Cmp.{unsigned_tied}
use Rattle.std.proofs.lemmas.Cmp.{nat_cmp_total}
use Rattle.std.proofs.lemmas.Bool.Decides.{nat_tests}
use Rattle.ist_core.specs.TreeTerms.{map_of, pairs_between}
use Rattle.std.specs.List.Sorted.{IsPartitionPoint, IsPartitionedBy}
use Rattle.std.proofs.lemmas.List.Elements.{filter_agree}
use Rattle.std.specs.FinMap as fin

-- the keys at each place
slice_index-keys_of : (pairs : List Pair) (i : ℕ) → slice_index (keys_of pairs) i ≡ key_at pairs i
slice_index-keys_of [] i = refl
slice_index-keys_of (p ∷ pairs) zero = refl
slice_index-keys_of (p ∷ pairs) (suc i) = slice_index-keys_of pairs i

-- each key is below all later ones
pub key_at-rises : (pairs : List Pair) → IsRising pairs → (i j : ℕ) → i < j → j < length pairs
    → key_at pairs i < key_at pairs j
key_at-rises pairs rising i j before within =
    let fits : j < length (keys_of pairs) = rw length-map within in
    simp slice_index-keys_of at (AllPairs-from_increasing (keys_of pairs) rising i j 0 before fits)

-- keys that increase from each place to the next are strictly increasing
pub rises_by_steps : (pairs : List Pair)
    → ((i : ℕ) → i + 1 < length pairs → key_at pairs i < key_at pairs (i + 1)) → IsRising pairs
rises_by_steps pairs steps i within = grind (arith, length-map, slice_index-keys_of)

-- ---- what a key has in a list of pairs, and what an edit of the list does to it.

-- the value of the first pair with the key
abbrev pub value_in : List Pair → ℕ → Option ℕ
value_in [] key = None
value_in (p ∷ pairs) key = if key == p.key then Some p.value else value_in pairs key

-- the pair read past the end of a list
abbrev pub no_pair : Pair
no_pair = record { key = 0; value = 0 }

-- no pair before place i has the key
abbrev pub NoKeyBefore : List Pair → ℕ → ℕ → Type 0
NoKeyBefore pairs key i = (j : ℕ) → j < i → key_at pairs j ≢ key

-- what a list of entries finds
find-value_in : (pairs : List Pair) (key : ℕ)
    → find nat_cmp key (map (λ p. (p.key, p.value)) pairs) ≡ value_in pairs key
find-value_in [] key = refl
find-value_in (p ∷ pairs) key = rw (unsigned_tied, find-value_in pairs key) refl

-- the map of some pairs returns the value of the first pair that has the key
pub get-map_of : (pairs : List Pair) (key : ℕ) → fin.get (map_of pairs) key ≡ value_in pairs key
get-map_of pairs key = fin.get-from_entries nat_cmp_total (map (λ p. (p.key, p.value)) pairs) key
    ∙ find-value_in pairs key

-- no pair of the tail has the key either
no_key_in_tail : (p : Pair) (pairs : List Pair) (key i : ℕ) → NoKeyBefore (p ∷ pairs) key (suc i)
    → NoKeyBefore pairs key i
no_key_in_tail p pairs key i absent j before = absent (suc j) (omega arith)

-- in the tail a pair is one place lower
is_at_in_tail : (p : Pair) (pairs : List Pair) (key i : ℕ) → IsAt (p ∷ pairs) key (suc i)
    → IsAt pairs key i
is_at_in_tail p pairs key i here = grind arith

-- a key that no pair has is not found
pub value_in-absent : (pairs : List Pair) (key : ℕ) → NoKeyBefore pairs key (length pairs)
    → value_in pairs key ≡ None
value_in-absent [] key absent = refl
value_in-absent (p ∷ pairs) key absent =
    grind (
      arith,
      nat_tests,
      absent 0 (omega arith),
      value_in-absent pairs key (no_key_in_tail p pairs key _ absent),
    )

module _ (key : ℕ) where
  -- the first pair that has the key gives its value
  pub value_in-at : (pairs : List Pair) (i : ℕ) → IsAt pairs key i → NoKeyBefore pairs key i
      → value_in pairs key ≡ Some (get_or pairs i no_pair).value
  value_in-at [] i here absent = absurd (omega (arith, here.within))
  value_in-at (p ∷ pairs) zero here absent = grind (arith, nat_tests, here.has_key)
  value_in-at (p ∷ pairs) (suc i) here absent =
      grind (
        arith,
        nat_tests,
        absent 0 (omega arith),
        value_in-at pairs i (is_at_in_tail p pairs key i here)
            (no_key_in_tail p pairs key i absent),
      )

  -- writing over the first pair that has the key sets its value
  pub value_in-set : (pairs : List Pair) (i value : ℕ) → IsAt pairs key i → NoKeyBefore pairs key i
      → (q : ℕ)
      → value_in (set pairs i (record { key = key; value = value })) q ≡
      (if q == key then Some value else value_in pairs q)
  value_in-set [] i value here absent q = absurd (omega (arith, here.within))
  value_in-set (p ∷ pairs) zero value here absent q = grind (arith, nat_tests, here.has_key)
  value_in-set (p ∷ pairs) (suc i) value here absent q =
      grind (
        arith,
        nat_tests,
        absent 0 (omega arith),
        value_in-set pairs i value (is_at_in_tail p pairs key i here)
            (no_key_in_tail p pairs key i absent) q,
      )

  -- inserting a pair before any that has the key sets only that key
  pub value_in-insert : (pairs : List Pair) (i value : ℕ) → NoKeyBefore pairs key i → (q : ℕ)
      → value_in (insert pairs i (record { key = key; value = value })) q ≡
      (if q == key then Some value else value_in pairs q)
  value_in-insert pairs zero value absent q = refl
  value_in-insert [] (suc i) value absent q = refl
  value_in-insert (p ∷ pairs) (suc i) value absent q =
      grind (
        arith,
        nat_tests,
        absent 0 (omega arith),
        value_in-insert pairs i value (no_key_in_tail p pairs key i absent) q,
      )

  -- taking the only pair away that has the key leaves it with none
  pub value_in-remove : (pairs : List Pair) (i : ℕ) → IsAt pairs key i → NoKeyBefore pairs key i
      → ((j : ℕ) → i < j → j < length pairs → key_at pairs j ≢ key) → (q : ℕ)
      → value_in (remove pairs i) q ≡ (if q == key then None else value_in pairs q)
  value_in-remove [] i here absent last q = absurd (omega (arith, here.within))
  value_in-remove (p ∷ pairs) zero here absent last q =
      let gone : value_in pairs key ≡ None =
      value_in-absent pairs key (λ j within. last (suc j) (omega arith) (omega arith)) in
      grind (arith, nat_tests, here.has_key, gone)
  value_in-remove (p ∷ pairs) (suc i) here absent last q =
      grind (
        arith,
        nat_tests,
        absent 0 (omega arith),
        value_in-remove pairs i (is_at_in_tail p pairs key i here)
            (no_key_in_tail p pairs key i absent)
            (λ j after within. last (suc j) (omega arith) (omega arith)) q,
      )

-- ---- slices of a list of pairs with increasing keys.

module _ {X : Type 0} (p : X → Bool) where
  -- the point of a partition in the tail
  point_in_tail : (x : X) (xs : List X) (i : ℕ)
      → IsPartitionPoint (λ y. p y ≡ true) (λ y. p y ≡ false) (x ∷ xs) (suc i)
      → IsPartitionPoint (λ y. p y ≡ true) (λ y. p y ≡ false) xs i
  point_in_tail x xs i point = (
    λ k d from to. point.0 (suc k) d (omega arith) (omega arith),
    λ k d from to. point.1 (suc k) d (omega arith) (omega arith),
  )

  -- if every element fails, none passes
  none_pass : (x : X) (xs : List X)
      → IsPartitionPoint (λ y. p y ≡ true) (λ y. p y ≡ false) (x ∷ xs) 0
      → IsPartitionPoint (λ y. p y ≡ true) (λ y. p y ≡ false) xs 0
  none_pass x xs point = (
    λ k d from to. absurd (omega arith),
    λ k d from to. point.1 (suc k) d (omega arith) (omega arith),
  )

  -- the elements before the point are those that pass
  pub take_partition : (xs : List X) (i : ℕ)
      → IsPartitionPoint (λ y. p y ≡ true) (λ y. p y ≡ false) xs i → take i xs ≡ filter p xs
  take_partition [] zero point = refl
  take_partition [] (suc i) point = refl
  take_partition (x ∷ xs) zero point =
      rw (point.1 0 x (omega arith) (omega arith)) (take_partition xs 0 (none_pass x xs point))
  take_partition (x ∷ xs) (suc i) point = rw (point.0 0 x (omega arith) (omega arith))
      (ap (λ (ys : List X). x ∷ ys) (take_partition xs i (point_in_tail x xs i point)))

  -- and those from it on are those that fail
  pub drop_partition : (xs : List X) (i : ℕ)
      → IsPartitionPoint (λ y. p y ≡ true) (λ y. p y ≡ false) xs i
      → drop i xs ≡ filter (λ y. not (p y)) xs
  drop_partition [] zero point = refl
  drop_partition [] (suc i) point = refl
  drop_partition (x ∷ xs) zero point = rw (point.1 0 x (omega arith) (omega arith))
      (ap (λ (ys : List X). x ∷ ys) (drop_partition xs 0 (none_pass x xs point)))
  drop_partition (x ∷ xs) (suc i) point = rw (point.0 0 x (omega arith) (omega arith))
      (drop_partition xs i (point_in_tail x xs i point))

-- a test that follows another keeps what passes both
filter-filter : {X : Type 0} (p q : X → Bool) (xs : List X)
    → filter q (filter p xs) ≡ filter (λ x. p x && q x) xs
filter-filter p q [] = refl
filter-filter p q (x ∷ xs) = grind (arith, filter-filter p q xs)

module _ (pairs : List Pair) (rising : IsRising pairs) where
  -- the keys do not fall
  keys_rise : (i j : ℕ) → i ≤ j → j < length pairs → key_at pairs i ≤ key_at pairs j
  keys_rise i j le within =
      grind (arith, key_at-rises pairs rising i j, λ (same : i ≡ j). ap (key_at pairs) same)

  -- the keys below a bound come first
  pub below_first : (first : ℕ) → IsPartitionedBy (λ p. nat_lt p.key first) pairs
  below_first first i j d le within passes = let rise = keys_rise i j le within in
      grind (arith, nat_tests, get_or_default pairs i d no_pair, get_or_default pairs j d no_pair)

  -- the keys up to a bound come first too
  pub up_to_first : (last : ℕ) → IsPartitionedBy (λ p. nat_le p.key last) pairs
  up_to_first last i j d le within passes = let rise = keys_rise i j le within in
      grind (arith, nat_tests, get_or_default pairs i d no_pair, get_or_default pairs j d no_pair)

  -- the pairs after a place have strictly increasing keys too
  pub rising_drop : (n : ℕ) → IsRising (drop n pairs)
  rising_drop n = grind (arith, rises_by_steps, length-drop, get_or-drop, key_at-rises)

-- from the first key that isn't below the interval, up to the last that isn't above it
pub slice_between : (pairs : List Pair) (first last from count : ℕ)
    → IsPartitionPoint (λ p. nat_lt p.key first ≡ true) (λ p. nat_lt p.key first ≡ false) pairs from
    → IsPartitionPoint (λ p. nat_le p.key last ≡ true) (λ p. nat_le p.key last ≡ false)
    (drop from pairs) count → take count (drop from pairs) ≡ pairs_between first last pairs
slice_between pairs first last from count below up_to =
    take_partition (λ p. nat_le p.key last) (drop from pairs) count up_to
    ∙ ap (filter (λ p. nat_le p.key last))
    (drop_partition (λ p. nat_lt p.key first) pairs from below)
    ∙ filter-filter (λ p. not (nat_lt p.key first)) (λ p. nat_le p.key last) pairs
    ∙ filter_agree _ _ (λ p. grind (arith, nat_tests)) pairs
