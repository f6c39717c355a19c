-- The contents are the pairs of the map after the changes. Serves `laws.changes_are_told`.
use Rattle.std.proofs.Common.{◌≡◌, ℕ, T, List, [], ◌∷◌, map, refl, sym, ap, ◌∙◌, subst, Some, arith}
use Rattle.std.specs.Cmp.{nat_cmp_total}
use Rattle.std.specs.Ordering.{nat_cmp}
use Rattle.std.specs.List.Sorted.{IsStrictlyIncreasing}
use Rattle.ist_core.specs.declared.pairs.Pair.{Pair}
use Rattle.ist_core.specs.declared.commands.Command.TheVariants.{Put}
use Rattle.ist_core.specs.TreeTerms.{map_of, pairs_of, pair_of, HasContents, Entry, changes_of, IsRead, StandAmong, StandsIn, IsFresh}
use Rattle.ist_core.specs.WordTerms.{anchor, start, in_anchor, logical, degree, square_root, root_up_to, part_len, part_lens, ideal_words, ideal_words_within, ref_of, rows_within}
use Rattle.ist_core.specs.LogTerms.{Log, EachEnabled, CanOpen, state_of, same_log, woven, IsLegal}
use Rattle.ist_core.proofs.AllPlaceLemmas.{is_sorted-rising, anchor_free, names, one_home, AreRisingKeys, leaves_under, slot_reads_as, leaves_lie, next_from_rises, pairs-entries, entry, pair}
use Rattle.laws_links.proofs.ExistLemmas.{HasSome}
use Rattle.laws_links.proofs.ContentLemmas.{contents_exist}
use Rattle.laws_histories.specs.Finding.{Gives}
use Rattle.laws_histories.specs.Telling.{map_now}
use Rattle.laws_histories.proofs.BelowLemmas.{value_of, get-map_of, same_gets, pairs_rise}
use Rattle.laws_histories.proofs.FindLemmas.{finds_once}
use Rattle.laws_histories.proofs.RootLemmas.{named_value}
use Rattle.laws_histories.proofs.TellLemmas.{ToldAfter}
use Rattle.laws_histories.proofs.ToldLemmas.{told, all_needed}
use Rattle.laws_histories.proofs.OpeningLemmas.{start_contents}
use Rattle.std.proofs.lemmas.Bool.Decides.{nat_tests}
use Rattle.std.specs.FinMap.{gets}
use Rattle.std.proofs.lemmas.Bool.{true≢false}
use Rattle.ist_core.specs.ExampleLogs.{start_pairs, late_marked, late_resolved, late_finished}
use Rattle.ist_core.proofs.LateExampleLemmas.{late_is_lawful, late_changes}
use Rattle.laws_histories.specs.ExampleCalls.{the_put, early_find, late_find, writer, reader, one_history}
use Rattle.laws_histories.proofs.WovenLemmas.{woven_legal}
use Rattle.std.specs.FinMap as fin

-- ---- the pairs of a map

-- entries have the keys of the pairs
keys-entries : (pairs : List Pair) → map (λ e. e.0) (map entry pairs) ≡ map (λ p. p.key) pairs
keys-entries [] = refl
keys-entries (p ∷ pairs) = ap (λ ks. p.key ∷ ks) (keys-entries pairs)

-- pairs with strictly increasing keys are the pairs of their map
pairs_of-map_of : (pairs : List Pair) → AreRisingKeys (λ p. p.key) pairs → pairs_of (map_of pairs) ≡ pairs
pairs_of-map_of pairs rise = let es = map entry pairs in
    let sorted =
    is_sorted-rising es
    (subst IsStrictlyIncreasing (sym (keys-entries pairs)) (next_from_rises (λ p. p.key) pairs rise)) in
    let holds : T (fin.is_sorted nat_cmp es) = subst T (sym sorted) tt in
    let same : map_of pairs ≡ fin.from_sorted es =
    fin.same_map nat_cmp_total fin.nat_cmp-IsAntisymmetric _ _
    (λ q. fin.get-from_entries nat_cmp_total es q ∙ sym (fin.get-from_sorted nat_cmp es q holds)) in
    ap (λ m. map pair (fin.entries m)) same
    ∙ ap (map pair) (fin.entries-from_sorted nat_cmp es holds) ∙ pairs-entries pairs

-- ---- after a log

module _ (pairs : List Pair) (words : ℕ) (opens : CanOpen pairs words) where
  -- what the tree reads as is named for the anchor's slot
  tree_value : (log : Log) (h : EachEnabled (start pairs words) log)
      (has : HasSome (state_of pairs words log).pieces (logical (state_of pairs words log).pieces (state_of pairs words log).anchor))
      → (key : ℕ) → Gives (state_of pairs words log) key (value_of key (map pair_of has.leaves))
  tree_value log h has key = let t = state_of pairs words log in named_value pairs words opens log h
      (logical t.pieces t.anchor) has.leaves has.reached anchor 0
      (slot_reads_as t anchor 0 t.anchor (names pairs words opens log h) (in_anchor refl refl refl)) key

  -- a new table gives each key what the map of its pairs has
  opening : (key : ℕ) → Gives (start pairs words) key (fin.get (map_of pairs) key)
  opening key = let it = start_contents pairs words opens in
      subst (λ v. Gives (start pairs words) key v)
      (ap (value_of key) (sym it.pairs_are) ∙ sym (get-map_of pairs key))
      (tree_value [] tt record { leaves = it.leaves; reached = it.reached } key)

  -- what the tree gives for each key after the changes
  pub told_at : (log : Log) → EachEnabled (start pairs words) log → ToldAfter pairs words log
  told_at log h = told pairs words opens (all_needed pairs words opens) opening log h

  -- some leaves lie in the tree
  leaves_at : (log : Log) → EachEnabled (start pairs words) log
      → HasSome (state_of pairs words log).pieces (logical (state_of pairs words log).pieces (state_of pairs words log).anchor)
  leaves_at log h = grind (arith, contents_exist)

  -- the keys of the pairs of these leaves are strictly increasing
  rise_at : (log : Log) (h : EachEnabled (start pairs words) log)
      → AreRisingKeys (λ p. p.key) (map pair_of (leaves_at log h).leaves)
  rise_at log h = let t = state_of pairs words log in let has = leaves_at log h in
      let o = names pairs words opens log h in pairs_rise has.leaves
      (leaves_under t (logical t.pieces t.anchor) has.leaves o (one_home pairs words opens log h) (anchor_free pairs words log h) (leaves_lie pairs words opens log h) has.reached anchor 0
      (slot_reads_as t anchor 0 t.anchor o (in_anchor refl refl refl))).1

  -- the pairs of these leaves are the pairs of the map after the changes
  pairs_at : (log : Log) (h : EachEnabled (start pairs words) log)
      → pairs_of (map_now pairs words log) ≡ map pair_of (leaves_at log h).leaves
  pairs_at log h = let t = state_of pairs words log in let has = leaves_at log h in
      let xs = map pair_of has.leaves in
      let same : map_now pairs words log ≡ map_of xs =
      same_gets (map_now pairs words log) (map_of xs)
      (λ key.
      finds_once t.pieces key (logical t.pieces t.anchor) (fin.get (map_now pairs words log) key)
      (value_of key xs) ((told_at log h).gives key) (tree_value log h has key)
      ∙ sym (get-map_of xs key)) in
      ap pairs_of same ∙ pairs_of-map_of xs (rise_at log h)

  -- the contents are the pairs of the map after the changes
  pub contents_at : (log : Log) → EachEnabled (start pairs words) log
      → HasContents (state_of pairs words log) (pairs_of (map_now pairs words log))
  contents_at log h =
      let has =
      leaves_at log h in record { leaves = has.leaves; reached = has.reached; pairs_are = pairs_at log h }

  -- the pairs of the map have strictly increasing keys
  pub pairs_rise_at : (log : Log) → EachEnabled (start pairs words) log
      → IsStrictlyIncreasing (map (λ p. p.key) (pairs_of (map_now pairs words log)))
  pairs_rise_at log h =
      subst (λ xs. IsStrictlyIncreasing (map (λ p. p.key) xs)) (sym (pairs_at log h))
      (next_from_rises (λ p. p.key) (map pair_of (leaves_at log h).leaves) (rise_at log h))

-- ---- calls of two passes on a small log. Serves `examples`.

-- the one change
abbrev the_entry : Entry
the_entry = record { owner = 1; command = Put 20 9; reply = Some 2 }

-- what the map has before the put
old_value : fin.get (map_of start_pairs) 20 ≡ Some 2
unfolding value_of
old_value = get-map_of start_pairs 20

-- what the map has after the put
new_value : fin.get (fin.insert (map_of start_pairs) 20 9) 20 ≡ Some 9
new_value = grind (arith, nat_tests, gets)

-- the put is placed among the changes
writer_among : StandAmong (map_of start_pairs) (the_entry ∷ []) 1 (the_put ∷ [])
writer_among = grind (arith, true≢false)

-- so it is placed in the log
pub writer_stands : StandsIn start_pairs 100 late_finished 1 (the_put ∷ [])
writer_stands = grind (arith, late_changes, writer_among)

-- the early find reads the map at its position
early_read : IsRead (map_of start_pairs) (the_entry ∷ []) early_find
early_read = record { within = omega arith; reply = sym old_value }

-- the late find has the reply of the map at its position
late_read : IsRead (map_of start_pairs) (the_entry ∷ []) late_find
late_read = record { within = omega arith; reply = sym new_value }

-- both finds are placed among the changes
reader_among : StandAmong (map_of start_pairs) (the_entry ∷ []) 2 (early_find ∷ late_find ∷ [])
reader_among = grind (arith, true≢false, early_read, late_read)

-- so they are placed in the log
pub reader_stands : StandsIn start_pairs 100 late_finished 2 (early_find ∷ late_find ∷ [])
reader_stands = grind (arith, late_changes, reader_among)

-- the early find is placed before the put
early_among : StandAmong (map_of start_pairs) [] 2 (early_find ∷ [])
early_among = grind (arith, true≢false, old_value)

-- so it is placed in the log of that moment
pub early_stands : StandsIn start_pairs 100 late_marked 2 (early_find ∷ [])
unfolding ref_of rows_within degree square_root root_up_to part_len part_lens ideal_words ideal_words_within
early_stands = early_among

-- one change was made by then
resolved_changes : changes_of start_pairs 100 late_resolved ≡ the_entry ∷ []
unfolding ref_of rows_within degree square_root root_up_to part_len part_lens ideal_words ideal_words_within
resolved_changes = refl

-- the late find is fresh
pub late_fresh : IsFresh start_pairs 100 late_resolved 1 late_find
late_fresh = grind (arith, resolved_changes)

-- the two passes, woven
pub calls_woven : woven (changes_of start_pairs 100 late_finished)
    (writer ∷ reader ∷ []) ≡ one_history
calls_woven = subst (λ es. woven es (writer ∷ reader ∷ []) ≡ one_history) (sym late_changes) refl

-- the history is legal by the places of its calls
pub history_legal : IsLegal (map_of start_pairs) one_history
history_legal = subst (λ told. IsLegal (map_of start_pairs) told) calls_woven
    (woven_legal start_pairs 100 late_finished (writer ∷ reader ∷ []) (told_at start_pairs 100 late_is_lawful.opens late_finished late_is_lawful.enabled).legal
    ((late_finished, same_log, writer_stands), ((late_finished, same_log, reader_stands), tt)))
