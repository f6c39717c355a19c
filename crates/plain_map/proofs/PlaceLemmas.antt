-- What a search finds in a list of pairs with increasing keys, and what an edit at that place does
-- to the list and its map.
use Rattle.std.proofs.Common.{◌≡◌, ℕ, ◌+◌, ◌-◌, ◌<◌, ◌≤◌, ◌≢◌, ◌==◌, List, length, get_or, set, if◌then◌else◌, Some, None, Result, Ok, Err, IfOk, IfErr, refl, sym, ap, subst, ◌∙◌, arith, suc, Bool, true, false, ◌&&◌, T, [], ◌∷◌, map}
use Rattle.std.specs.List.{insert, remove}
use Rattle.std.specs.List.Sorted.{IsSearchInRange, IsBinarySearchResult, IsNonDecreasingBy}
use Rattle.std.specs.Ordering.{nat_cmp, ordering_index, is_lt}
use Rattle.std.specs.Cmp.{unsigned_tied, nat_cmp_is}
use Rattle.std.proofs.lemmas.Cmp.{ranked, nat_cmp_total}
use Rattle.std.proofs.lemmas.List.Sorted.{IsNonDecreasingBy-from_default}
use Rattle.std.proofs.lemmas.List.Edits.{length-insert, get_or-insert_below, get_or-insert_at, get_or-insert_above, length-remove, get_or-remove_below, get_or-remove_above}
use Rattle.std.proofs.lemmas.Bool.Decides.{nat_tests}
use Rattle.std.proofs.lemmas.Grind.{common_steps}
use Rattle.ist_core.specs.TreeTerms.{map_of, pairs_of, Map, replay}
use Rattle.ist_core.specs.declared.pairs.Pair.{Pair}
use Rattle.ist_core.specs.declared.commands.Command.{Command}
use Rattle.plain_map.specs.Rising.{IsRising}
use Rattle.plain_map.specs.Place.{key_at, IsAt, IsGapFor}
use Rattle.plain_map.proofs.RisingLemmas.{key_at-rises, rises_by_steps, NoKeyBefore, no_pair, value_in, get-map_of, value_in-absent, value_in-at, value_in-set, value_in-insert, value_in-remove}
use Rattle.std.specs.FinMap.{is_sorted}
use Rattle.std.specs.FinMap.Entries.{below_all}
use Rattle.std.specs.declared.cmp.Ordering.TheVariants.{Less}
use Rattle.ist_core.proofs.AllPlaceLemmas.{pairs-entries, entry, pair, adds_few_keys, length-pairs_of}
use Rattle.std.specs.FinMap as fin

-- lists with the same values at all keys but one represent maps that differ by a put
set_from_values : (old new : List Pair) (key value : ℕ)
    → ((q : ℕ) → value_in new q ≡ (if q == key then Some value else value_in old q))
    → map_of new ≡ fin.insert (map_of old) key value
set_from_values old new key value values =
    fin.same_map nat_cmp_total fin.nat_cmp-IsAntisymmetric _ _ (λ q. get-map_of new q ∙ values q
    ∙ sym (fin.get-insert nat_cmp_total (map_of old) key value q
    ∙ rw (unsigned_tied, get-map_of) refl))

-- or by a remove
gone_from_values : (old new : List Pair) (key : ℕ)
    → ((q : ℕ) → value_in new q ≡ (if q == key then None else value_in old q))
    → map_of new ≡ fin.remove (map_of old) key
gone_from_values old new key values =
    fin.same_map nat_cmp_total fin.nat_cmp-IsAntisymmetric _ _ (λ q. get-map_of new q ∙ values q
    ∙ sym (fin.get-remove nat_cmp_total (map_of old) key q
    ∙ rw (unsigned_tied, get-map_of) refl))

module _ (pairs : List Pair) (rising : IsRising pairs) (key : ℕ) where
  -- the comparisons with the key increase along the list, as a search by halving requires
  comparisons_rise : IsNonDecreasingBy (λ p. ordering_index (nat_cmp p.key key)) pairs
  comparisons_rise =
      IsNonDecreasingBy-from_default (λ p. ordering_index (nat_cmp p.key key)) pairs no_pair
      (λ i j le within.
      let keys_rise : key_at pairs i ≤ key_at pairs j =
      grind (arith, key_at-rises pairs rising i j, λ (same : i ≡ j). ap (key_at pairs) same) in
      grind (arith, nat_tests))

  -- the search ends at the key, or at the gap for it
  pub searched : (r : Result ℕ ℕ) → IsSearchInRange r (length pairs)
      → IsBinarySearchResult (λ p. nat_cmp p.key key) pairs r
      → record { found : IfOk r (IsAt pairs key); absent : IfErr r (IsGapFor pairs key) }
  searched (Ok at) within equal = grind (arith, ranked, no_pair)
  searched (Err at) within parted = record {
    found = tt;
    absent = record {
      within = within;
      below = λ j lt. ranked _ key _ (sym ((parted comparisons_rise).0 j no_pair (omega arith) lt));
      above = λ j le lt. ranked _ key _ (sym ((parted comparisons_rise).1 j no_pair le lt));
    };
  }

module _ (pairs : List Pair) (rising : IsRising pairs) (key at : ℕ) (here : IsAt pairs key at) where
  -- the keys before the place are below, so none is the key
  none_before : NoKeyBefore pairs key at
  none_before j before same =
      omega (arith, key_at-rises pairs rising j at before here.within, here.has_key)

  -- and the keys after it are above
  none_after : (j : ℕ) → at < j → j < length pairs → key_at pairs j ≢ key
  none_after j following within same =
      omega (arith, key_at-rises pairs rising at j following within, here.has_key)

  -- the key has the value at its place
  pub get_at : fin.get (map_of pairs) key ≡ Some (get_or pairs at no_pair).value
  get_at = get-map_of pairs key ∙ value_in-at key pairs at here none_before

  -- writing over its pair sets only that key
  pub map_of-set : (value : ℕ)
      → map_of (set pairs at (record { key = key; value = value })) ≡ fin.insert
      (map_of pairs) key value
  map_of-set value = grind (arith, set_from_values, value_in-set, none_before)

  -- and keeps the order, since every key stays
  pub rising_set : (value : ℕ) → IsRising (set pairs at (record { key = key; value = value }))
  rising_set value = rises_by_steps _ (λ i within.
      grind (arith, common_steps, key_at-rises pairs rising i (i + 1), here.within, here.has_key))

  -- without its pair the key is gone
  pub map_of-remove : map_of (remove pairs at) ≡ fin.remove (map_of pairs) key
  map_of-remove = grind (arith, gone_from_values, value_in-remove, none_before, none_after)

  -- and the others keep their order
  pub rising_remove : IsRising (remove pairs at)
  rising_remove =
      grind (
        arith,
        rises_by_steps,
        length-remove,
        get_or-remove_below,
        no_pair,
        get_or-remove_above,
        key_at-rises,
      )

module _ (pairs : List Pair) (key at : ℕ) (gap : IsGapFor pairs key at) where
  -- a key that has a gap has no value
  pub get_in_gap : fin.get (map_of pairs) key ≡ None
  get_in_gap = grind (arith, get-map_of, value_in-absent)

  -- so taking it away changes nothing
  pub map_of-absent : map_of pairs ≡ fin.remove (map_of pairs) key
  map_of-absent = grind (arith, value_in-absent, gone_from_values, nat_tests, value_in)

  -- a new pair in the gap sets only that key
  pub map_of-insert : (value : ℕ)
      → map_of (insert pairs at (record { key = key; value = value })) ≡ fin.insert
      (map_of pairs) key value
  map_of-insert value = grind (arith, set_from_values, value_in-insert)

  -- and keeps the order
  pub rising_insert : (value : ℕ) → IsRising pairs
      → IsRising (insert pairs at (record { key = key; value = value }))
  rising_insert value rising = rises_by_steps _ (λ i within.
      let p : Pair = record { key = key; value = value } in
      let more = length-insert pairs at p gap.within in
      let left : (i : ℕ) → i < at → key_at (insert pairs at p) i ≡ key_at pairs i =
      λ i before. ap (λ (p : Pair). p.key)
      (get_or-insert_below pairs at p no_pair i before gap.within) in
      let middle : (i : ℕ) → i ≡ at → key_at (insert pairs at p) i ≡ key =
      λ i same. rw same
      (ap (λ (p : Pair). p.key) (get_or-insert_at pairs at p no_pair gap.within)) in
      let right : (i : ℕ) → at ≤ i → key_at (insert pairs at p) (i + 1) ≡ key_at pairs i =
      λ i following. ap (λ (p : Pair). p.key)
      (get_or-insert_above pairs at p no_pair i following gap.within) in
      let before_right : at < i → key_at (insert pairs at p) i ≡ key_at pairs (i - 1) =
      λ following. subst (λ q. key_at (insert pairs at p) q ≡ key_at pairs (i - 1)) {x = i - 1 + 1}
      (omega arith) (right (i - 1) (omega arith)) in
      grind (
        arith,
        left i,
        left (i + 1),
        middle i,
        middle (i + 1),
        right i,
        before_right,
        key_at-rises pairs rising i (i + 1),
        key_at-rises pairs rising (i - 1) i,
        gap.below i,
        gap.above i,
      ))

-- ---- the pairs of a map are the list that it was made of, if the keys of that list are strictly
-- increasing; and the map of its pairs is the map.

-- two tests that pass, pass together
both : (a b : Bool) → T a → T b → T (a && b)
both true b first second = second
both false b first second = absurd first

-- a key below each of some pairs is below their entries
below_entries : (key : ℕ) (pairs : List Pair) → ((j : ℕ) → j < length pairs → key < key_at pairs j)
    → T (below_all nat_cmp key (map entry pairs))
below_entries key [] below = tt
below_entries key (p ∷ pairs) below =
    subst (λ r. T (is_lt r && below_all nat_cmp key (map entry pairs)))
    (nat_cmp_is key p.key Less (below 0 (omega arith)))
    (below_entries key pairs (λ j within. below (suc j) (omega arith)))

-- entries of pairs with increasing keys are in order
sorted_entries : (pairs : List Pair)
    → ((i j : ℕ) → i < j → j < length pairs → key_at pairs i < key_at pairs j)
    → T (is_sorted nat_cmp (map entry pairs))
sorted_entries [] rises = tt
sorted_entries (p ∷ pairs) rises =
    both _ _ (below_entries p.key pairs (λ j within. rises 0 (suc j) (omega arith) (omega arith)))
    (sorted_entries pairs (λ i j before within. rises (suc i) (suc j) (omega arith) (omega arith)))

-- the map of pairs with increasing keys has them as its pairs
pub pairs_of-map_of : (pairs : List Pair) → IsRising pairs → pairs_of (map_of pairs) ≡ pairs
pairs_of-map_of pairs rising = let es = map entry pairs in
    let sorted = sorted_entries pairs (key_at-rises pairs rising) in
    let same : map_of pairs ≡ fin.from_sorted es =
    fin.same_map nat_cmp_total fin.nat_cmp-IsAntisymmetric _ _ (λ q.
    fin.get-from_entries nat_cmp_total es q ∙ sym (fin.get-from_sorted nat_cmp es q sorted)) in
    ap (λ m. map pair (fin.entries m)) same
    ∙ ap (map pair) (fin.entries-from_sorted nat_cmp es sorted) ∙ pairs-entries pairs

-- ---- how many keys and pairs a map has, also after commands.

-- commands add at most as many pairs as there are commands
pub adds_few_pairs : (m : Map) (cs : List Command)
    → length (pairs_of (replay m cs)) ≤ length (pairs_of m) + length cs
adds_few_pairs m cs = grind (arith, adds_few_keys, length-pairs_of)
