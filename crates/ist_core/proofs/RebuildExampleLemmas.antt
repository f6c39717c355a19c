-- The log of a whole rebuild is lawful. Serves `examples.a_rebuild_is_lawful`.
use Rattle.std.proofs.Common.{ℕ, ◌<◌, true, List, [], ◌∷◌, Some, refl, inl, inr, arith}
use Rattle.ist_core.specs.Types.{LeafRow, InnerRow, ChangeRow, RebuildRow, Reserve, Okay, Decide, Mark, Pass}
use Rattle.ist_core.specs.WordTerms.{degree, square_root, root_up_to, part_len, part_lens, ideal_words, ideal_words_within, share_from, share_from_is, LeafAt, InnerAt, ref_of, start_kind, finish_kind, Pieces, with_inners, rows_within, in_anchor, anchor_is, IsTop, IsIdeal, of_one, of_more, no_part, one_part}
use Rattle.ist_core.specs.LogTerms.{state, Log, at_end, from_right, no_build, CanReserve, EachEnabled}
use Rattle.ist_core.specs.TreeTerms.{PlacedLeaf, HasLeaves, leaf_here, row_here, no_slot, one_slot, IsStarted, CanOkay, CanDecide, CanResolve, CanMark, as_target, CanPass, CanFinish, one_key, past_end, one_passed, CanRoot, root_whole}
use Rattle.ist_core.specs.ExampleLogs.{start_installed, rebuild_started, rebuild_finished, root_rows, rebuild_rooted}
use Rattle.ist_core.proofs.StartExampleLemmas.{two, start_is_lawful}

-- the start and the finish, with a decision
abbrev pub the_start : ℕ → ChangeRow
the_start decision = record {
  decision = decision;
  kind = start_kind;
  node = 2;
  index = 0;
  from = 34;
  to = 124;
  owner = 0;
  key = 0;
  value = 0;
}

-- the change of the finish, with this decision
abbrev pub the_finish : ℕ → ChangeRow
the_finish decision = record {
  decision = decision;
  kind = finish_kind;
  node = 2;
  index = 0;
  from = 124;
  to = 234;
  owner = 0;
  key = 0;
  value = 0;
}

-- the rebuild, with this root
abbrev pub the_rebuild : ℕ → RebuildRow
the_rebuild root = record { target = 4; parent = 2; index = 0; root = root; draw = 0 }

-- the row over the two leaves, with a status
abbrev pub the_row : ℕ → InnerRow
the_row status = record {
  status = status;
  count = 0;
  degree = 2;
  size = 2;
  keys = 20 ∷ [];
  slots = 89 ∷ 105 ∷ [];
}

-- the leaf with the lower key
abbrev pub low : LeafRow
low = record { key = 10; value = 1 }

-- the leaf with the higher key
abbrev pub high : LeafRow
high = record { key = 20; value = 2 }

-- both leaves with their bases
abbrev pub both : List PlacedLeaf
both = record { base = 11; row = low } ∷ record { base = 13; row = high } ∷ []

-- ---- the start takes effect

start_okayed : CanOkay (state two start_installed) 0 20
start_okayed = record {
  known = omega arith;
  change = the_start 0;
  pending = record
      { published = refl; unset = refl };
  node_open = anchor_is refl;
}

start_decided : CanDecide (state two (Okay 0 20 ∷ start_installed)) (Okay 0 20 ∷ start_installed) 0
    20 true
start_decided = record {
  known = omega arith;
  change = the_start 0;
  pending = record
      { published = refl; unset = refl };
  outcome = inl refl;
}

start_resolved : CanResolve (state two (Decide 0 20 true ∷ Okay 0 20 ∷ start_installed)) 0 20
start_resolved = record {
  known = omega arith;
  change = the_start 1;
  published = refl;
  decided = λ e. omega arith;
  in_slot = in_anchor refl refl refl;
}

-- each event up to the started rebuild is enabled
pub started : EachEnabled two rebuild_started
started = (((start_is_lawful.enabled, start_okayed), start_decided), start_resolved)

-- ---- the target is marked, passed and finished

is_started : IsStarted (state two rebuild_started) 15
unfolding ref_of
is_started = record {
  base = 20;
  change = the_start 1;
  published = refl;
  kind = refl;
  decision = refl;
  to = refl;
}

marked : CanMark (state two rebuild_started) rebuild_started 0 4
unfolding rows_within degree square_root root_up_to part_len part_lens ideal_words
    ideal_words_within
marked = record {
  known = omega arith;
  row = the_row 0;
  published = refl;
  row_open = refl;
  called = as_target 15 record { row = the_rebuild 7; published = refl; target_is = refl }
      is_started;
}

passed_low : CanPass (state two (Mark 0 4 ∷ rebuild_started)) 0 4 0 89
unfolding ref_of rows_within degree square_root root_up_to part_len part_lens ideal_words
    ideal_words_within
passed_low = record {
  known = omega arith;
  row = the_row 1;
  published = refl;
  marked = refl;
  in_slot = refl;
  no_change = λ change e. cc;
  set = λ e. omega arith;
}

passed_high : CanPass (state two (Pass 0 4 0 89 ∷ Mark 0 4 ∷ rebuild_started)) 0 4 1 105
unfolding ref_of rows_within degree square_root root_up_to part_len part_lens ideal_words
    ideal_words_within
passed_high = record {
  known = omega arith;
  row = the_row 1;
  published = refl;
  marked = refl;
  in_slot = refl;
  no_change = λ change e. cc;
  set = λ e. omega arith;
}

abbrev both_passed : Log
both_passed = Pass 0 4 1 105 ∷ Pass 0 4 0 89 ∷ Mark 0 4 ∷ rebuild_started

finished : CanFinish (state two both_passed) both_passed 0 4 2
unfolding ref_of rows_within degree square_root root_up_to part_len part_lens ideal_words
    ideal_words_within
finished = record {
  known = omega arith;
  row = the_row 1;
  published = refl;
  marked = refl;
  passed = one_passed 89 (inr (inl (refl, refl, refl))) one_key
      (one_passed 105 (inl (refl, refl, refl)) one_key past_end);
}

finished_log : EachEnabled two rebuild_finished
finished_log = ((((started, marked), passed_low), passed_high), finished)

-- ---- the root

root_reserved : CanReserve (state two rebuild_finished) 0 29 7
root_reserved = record {
  known = omega arith;
  base_is = refl;
  room = omega arith;
  fair = record {
    building = [];
    spare = 7 ∷ [];
    merge = from_right 7 at_end;
    builds = no_build;
    few = (inr (inr (inl refl)), tt);
    one_each = ((λ k. k), tt);
  };
}

abbrev root_held : Log
root_held = Reserve 0 29 7 ∷ rebuild_finished

abbrev with_root_row : Pieces
with_root_row = with_inners (state two root_held).pieces root_rows

root_top : IsTop with_root_row 29 (the_row 0) both 4
unfolding degree square_root root_up_to part_len part_lens
root_top = grind (arith, two)

low_part : IsIdeal with_root_row (LeafAt 11) (record { base = 11; row = low } ∷ []) 29 []
unfolding rows_within degree square_root root_up_to part_len part_lens ideal_words
    ideal_words_within
low_part = of_one refl refl

high_part : IsIdeal with_root_row (LeafAt 13) (record { base = 13; row = high } ∷ []) 29 []
unfolding rows_within degree square_root root_up_to part_len part_lens ideal_words
    ideal_words_within
high_part = of_one refl refl

root_ideal : IsIdeal with_root_row (InnerAt 29) both 4 (29 ∷ [])
unfolding ref_of degree square_root root_up_to part_len part_lens
root_ideal = of_more (the_row 0) root_top
    (one_part (LeafAt 11) refl low_part (one_part (LeafAt 13) refl high_part no_part))

pub two_is_few : 2 < share_from
two_is_few = let is = share_from_is in omega arith

still_started : IsStarted (state two root_held) 15
unfolding ref_of
still_started = record {
  base = 20;
  change = the_start 1;
  published = refl;
  kind = refl;
  decision = refl;
  to = refl;
}

target_leaves : HasLeaves (state two root_held).pieces (Some (InnerAt 4)) both
unfolding ref_of rows_within degree square_root root_up_to part_len part_lens ideal_words
    ideal_words_within
target_leaves = row_here (the_row 11) refl
    (one_slot (leaf_here low refl) (one_slot (leaf_here high refl) no_slot))

rooted : CanRoot (state two root_held) 0 15 234 root_rows
unfolding ref_of rows_within degree square_root root_up_to part_len part_lens ideal_words
    ideal_words_within
rooted = record {
  known = omega arith;
  row = the_rebuild 7;
  published = refl;
  started = still_started;
  rootless = refl;
  k = 2;
  finished = record { row = the_row 11; published = refl; status = refl };
  leaves = both;
  reached = target_leaves;
  root = root_whole (InnerAt 29) two_is_few refl root_ideal;
  once = ((λ k. k), tt);
  held = (inl refl, tt);
}

-- the rebuild has its root
pub rooted_log : EachEnabled two rebuild_rooted
rooted_log = ((finished_log, root_reserved), rooted)
