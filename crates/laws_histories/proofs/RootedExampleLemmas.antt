-- The rebuild of a row below another gets its root. Serves `examples`.
use Rattle.std.proofs.Common.{◌<◌, List, [], ◌∷◌, Some, refl, inl, arith}
use Rattle.ist_core.specs.declared.states.LeafRow.{LeafRow}
use Rattle.ist_core.specs.declared.states.InnerRow.{InnerRow}
use Rattle.ist_core.specs.declared.events.Event.TheVariants.{Reserve}
use Rattle.ist_core.specs.WordTerms.{degree, square_root, root_up_to, part_len, part_lens, ideal_words, ideal_words_within, LeafAt, InnerAt, ref_of, Pieces, with_inners, rows_within, IsTop, IsIdeal, of_one, of_more, no_part, one_part}
use Rattle.ist_core.specs.LogTerms.{state, Log, CanReserve, EachEnabled}
use Rattle.ist_core.specs.TreeTerms.{PlacedLeaf, HasLeaves, leaf_here, row_here, no_slot, one_slot, IsStarted, CanRoot, root_whole}
use Rattle.ist_core.proofs.RebuildExampleLemmas.{two_is_few}
use Rattle.laws_histories.specs.ExampleRebuilds.{left_finished, new_left_rows, left_rooted}
use Rattle.laws_histories.proofs.ReadyExampleLemmas.{three, ten, left, pair_fair}
use Rattle.laws_histories.proofs.LeftExampleLemmas.{the_start, the_rebuild, left_finished_enabled}

-- the new row may be reserved
root_reserved : CanReserve (state three left_finished) 0 126 7
unfolding ref_of rows_within degree square_root root_up_to part_len part_lens ideal_words ideal_words_within
root_reserved = grind (arith, pair_fair)

-- the new row is held
abbrev root_held : Log
root_held = Reserve 0 126 7 ∷ left_finished

-- the rows with it
abbrev with_root_row : Pieces
with_root_row = with_inners (state three root_held).pieces new_left_rows

-- the leaf of the key 20
abbrev pub twenty : LeafRow
twenty = record { key = 20; value = 2 }

-- both leaves
abbrev both : List PlacedLeaf
both = record { base = 101; row = ten } ∷ record { base = 20; row = twenty } ∷ []

-- the new row
abbrev pub new_left : InnerRow
new_left = left 0 0 809

-- it is the top of an ideal subtree
root_top : IsTop with_root_row 126 new_left both 11
unfolding ref_of rows_within degree square_root root_up_to part_len part_lens ideal_words ideal_words_within
root_top = grind arith

-- the new row is an ideal subtree over the leaves
root_ideal : IsIdeal with_root_row (InnerAt 126) both 11 (126 ∷ [])
unfolding ref_of rows_within degree square_root root_up_to part_len part_lens ideal_words ideal_words_within
root_ideal = of_more new_left root_top
    (one_part (LeafAt 101) refl (of_one refl refl)
    (one_part (LeafAt 20) refl (of_one refl refl) no_part))

-- the rebuild is still started
still_started : IsStarted (state three root_held) 112
unfolding ref_of rows_within degree square_root root_up_to part_len part_lens ideal_words ideal_words_within
still_started = record {
  base = 117;
  change = the_start 1;
  published = refl;
  kind = refl;
  decision = refl;
  to = refl;
}

-- the leaves of the target
target_leaves : HasLeaves (state three root_held).pieces (Some (InnerAt 11)) both
unfolding ref_of rows_within degree square_root root_up_to part_len part_lens ideal_words ideal_words_within
target_leaves = row_here (left 11 8 809) refl
    (one_slot (leaf_here ten refl) (one_slot (leaf_here twenty refl) no_slot))

-- so the new row may become the root
rooted : CanRoot (state three root_held) 0 112 1010 new_left_rows
unfolding ref_of rows_within degree square_root root_up_to part_len part_lens ideal_words ideal_words_within
rooted = record {
  known = omega arith;
  row = the_rebuild 7;
  published = refl;
  started = still_started;
  rootless = refl;
  k = 2;
  finished = record { row = left 11 8 809; published = refl; status = refl };
  leaves = both;
  reached = target_leaves;
  root = root_whole (InnerAt 126) two_is_few refl root_ideal;
  once = ((λ k. k), tt);
  held = (inl refl, tt);
}

-- the log is enabled until the rebuild has its root
pub left_rooted_enabled : EachEnabled three left_rooted
left_rooted_enabled = ((left_finished_enabled, root_reserved), rooted)
