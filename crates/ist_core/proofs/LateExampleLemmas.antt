-- The log of a put that a rebuild overtakes is lawful. Serves
-- `examples.an_overtaken_put_is_lawful`.
use Rattle.std.proofs.Common.{◌≡◌, ℕ, ◌⊎◌, true, [], ◌∷◌, Some, refl, inl, inr, arith, ⊎_elim}
use Rattle.ist_core.specs.Types.{Put, InnerRow, ChangeRow, Enter, Reserve, Install, Okay, Decide, Resolve, Pass}
use Rattle.ist_core.specs.WordTerms.{degree, square_root, root_up_to, part_len, part_lens, ideal_words, ideal_words_within, ref_of, put_kind, Change, rows_within, in_anchor, in_row, row_is, of_anchor, of_row}
use Rattle.ist_core.specs.LogTerms.{state, Log, at_end, from_right, no_build, CanEnter, CanReserve, Lawful, EachEnabled}
use Rattle.ist_core.specs.TreeTerms.{IsChild, at_anchor, below, Chain, no_row, one_row, from_anchor, down, leaf_here, row_here, no_slot, one_slot, HasContents, IsStarted, CanInstall, same_key, a_put, CanOkay, CanDecide, CanResolve, CanCount, CanMark, as_target, CanPass, CanFinish, one_key, past_end, one_passed, changes_of}
use Rattle.ist_core.specs.ExampleLogs.{start_pairs, rebuild_started, late_reserved, late_rows, late_marked, late_resolved, late_counted, late_finished}
use Rattle.ist_core.proofs.StartExampleLemmas.{two}
use Rattle.ist_core.proofs.RebuildExampleLemmas.{the_start, the_rebuild, low, high, started}
use Rattle.ist_core.proofs.RefusalLemmas.{NotRefused, NoneDecidedNo}
use Rattle.ist_core.proofs.FinishExampleLemmas.{none_refused_started}

-- the put, with a decision
abbrev the_put : ℕ → ChangeRow
the_put decision = record {
  decision = decision;
  kind = put_kind;
  node = 4;
  index = 1;
  from = 105;
  to = 233;
  owner = 1;
  key = 20;
  value = 9;
}

-- the target, with a status, a count and the word in its second slot
abbrev target : ℕ → ℕ → ℕ → InnerRow
target status count word = record
    { status = status; count = count; degree = 2; size = 2; keys = 20 ∷ []; slots = 89 ∷ word ∷ [] }

entered : CanEnter (state two rebuild_started) 1
entered = record { number = refl; below_limit = omega arith }

entered_too : CanEnter (state two (Enter 1 ∷ rebuild_started)) 2
entered_too = record { number = refl; below_limit = omega arith }

leaf_reserved : CanReserve (state two (Enter 2 ∷ Enter 1 ∷ rebuild_started)) 1 29 2
leaf_reserved = record {
  known = omega arith;
  base_is = refl;
  room = omega arith;
  fair = record {
    building = [];
    spare = 2 ∷ [];
    merge = from_right 2 at_end;
    builds = no_build;
    few = (inl refl, tt);
    one_each = ((λ k. k), tt);
  };
}

change_reserved : CanReserve (state two (Reserve 1 29 2 ∷ Enter 2 ∷ Enter 1 ∷ rebuild_started)) 1 31
    9
change_reserved = record {
  known = omega arith;
  base_is = refl;
  room = omega arith;
  fair = record {
    building = [];
    spare = 2 ∷ 9 ∷ [];
    merge = from_right 2 (from_right 9 at_end);
    builds = no_build;
    few = (inl refl, (inr (inr (inr (inl refl))), tt));
    one_each = (⊎_elim (λ k. omega arith) (λ k. k), ((λ k. k), tt));
  };
}

-- the target hangs below the anchor, under the rebuild
target_hangs : IsChild (state two late_reserved) 2 0 4
unfolding ref_of
target_hangs = record { word = 124; holds = in_anchor refl refl refl; reads = refl }

none_refused : NoneDecidedNo (state two late_reserved).pieces
none_refused = none_refused_started

installed : CanInstall two late_reserved 1 31 late_rows
unfolding NotRefused ref_of rows_within degree square_root root_up_to part_len part_lens ideal_words
    ideal_words_within
installed = record {
  known = omega arith;
  change = the_put 0;
  fresh = record { base = 29; words = 20 ∷ 9 ∷ [] } ∷ [];
  rows_are = refl;
  held = (inr (inl refl), (inl refl, tt));
  owned = refl;
  unset = refl;
  in_slot = in_row (target 0 0 105) refl refl;
  linked = inl (below 0 at_anchor target_hangs);
  unrefused = λ base earlier e _ _. none_refused base (Change earlier) e;
  fits = a_put record {
    kind = refl;
    by_key = record {
      led = inl (down 0 from_anchor (of_anchor refl refl) target_hangs);
      index = of_row (target 0 0 105) refl refl;
    };
    from = same_key 13 refl record { row = high; published = refl; key_is = refl };
    leaf = 29;
    to = refl;
    fresh_are = refl;
  };
}

abbrev late_installed : Log
late_installed = Install 1 31 late_rows ∷ late_reserved

okayed : CanOkay (state two late_installed) 2 31
unfolding rows_within degree square_root root_up_to part_len part_lens ideal_words
    ideal_words_within
okayed = record {
  known = omega arith;
  change = the_put 0;
  pending = record
      { published = refl; unset = refl };
  node_open = row_is (target 0 0 251) refl refl;
}

is_started : IsStarted (state two (Okay 2 31 ∷ late_installed)) 15
unfolding ref_of
is_started = record {
  base = 20;
  change = the_start 1;
  published = refl;
  kind = refl;
  decision = refl;
  to = refl;
}

marked : CanMark (state two (Okay 2 31 ∷ late_installed)) (Okay 2 31 ∷ late_installed) 0 4
unfolding rows_within degree square_root root_up_to part_len part_lens ideal_words
    ideal_words_within
marked = record {
  known = omega arith;
  row = target 0 0 251;
  published = refl;
  row_open = refl;
  called = as_target 15 record { row = the_rebuild 7; published = refl; target_is = refl }
      is_started;
}

decided : CanDecide (state two late_marked) late_marked 2 31 true
decided = record {
  known = omega arith;
  change = the_put 0;
  pending = record
      { published = refl; unset = refl };
  outcome = inr (inl refl);
}

resolved : CanResolve (state two (Decide 2 31 true ∷ late_marked)) 0 31
unfolding rows_within degree square_root root_up_to part_len part_lens ideal_words
    ideal_words_within
resolved = record {
  known = omega arith;
  change = the_put 1;
  published = refl;
  decided = λ e. omega arith;
  in_slot = in_row (target 1 0 251) refl refl;
}

-- the chain of the target is only the target
target_chain : Chain (state two late_resolved) 4 (4 ∷ [])
unfolding ref_of
target_chain = one_row 0 no_row record
    { word = 124; holds = in_anchor refl refl refl; reads = refl }

counted : CanCount two late_resolved 1 4
unfolding rows_within degree square_root root_up_to part_len part_lens ideal_words
    ideal_words_within
counted = record {
  known = omega arith;
  later = Resolve 0 31 ∷ [];
  by = 2;
  base = 31;
  earlier = late_marked;
  log_is = refl;
  update = record { change = the_put 1; published = refl; owned = refl; update = inl refl };
  last = ⊎_elim (λ k. k) (λ k. k);
  uncounted = ⊎_elim (λ k. k) (λ k. k);
  on_chain = inl (4 ∷ [], target_chain, inl refl);
}

passed_low : CanPass (state two late_counted) 0 4 0 89
unfolding ref_of rows_within degree square_root root_up_to part_len part_lens ideal_words
    ideal_words_within
passed_low = record {
  known = omega arith;
  row = target 1 1 233;
  published = refl;
  marked = refl;
  in_slot = refl;
  no_change = λ change e. cc;
  set = λ e. omega arith;
}

passed_new : CanPass (state two (Pass 0 4 0 89 ∷ late_counted)) 0 4 1 233
unfolding ref_of rows_within degree square_root root_up_to part_len part_lens ideal_words
    ideal_words_within
passed_new = record {
  known = omega arith;
  row = target 1 1 233;
  published = refl;
  marked = refl;
  in_slot = refl;
  no_change = λ change e. cc;
  set = λ e. omega arith;
}

abbrev both_passed : Log
both_passed = Pass 0 4 1 233 ∷ Pass 0 4 0 89 ∷ late_counted

finished : CanFinish (state two both_passed) both_passed 0 4 2
unfolding ref_of rows_within degree square_root root_up_to part_len part_lens ideal_words
    ideal_words_within
finished = record {
  known = omega arith;
  row = target 1 1 233;
  published = refl;
  marked = refl;
  passed = one_passed 89 (inr (inl (refl, refl, refl))) one_key
      (one_passed 233 (inl (refl, refl, refl)) one_key past_end);
}

put_installed : EachEnabled two late_installed
put_installed = (((((started, entered), entered_too), leaf_reserved), change_reserved), installed)

-- the log is lawful
pub late_is_lawful : Lawful start_pairs 100 late_finished
late_is_lawful =
    grind (
      arith,
      put_installed,
      okayed,
      marked,
      decided,
      resolved,
      counted,
      passed_low,
      passed_new,
      finished,
    )

-- the put is the one change
pub late_changes : changes_of start_pairs 100 late_finished ≡ record
    { owner = 1; command = Put 20 9; reply = Some 2 } ∷ []
unfolding ref_of rows_within degree square_root root_up_to part_len part_lens ideal_words
    ideal_words_within
late_changes = refl

-- the contents have its value
pub late_contents : HasContents (state two late_finished)
    (record { key = 10; value = 1 } ∷ record { key = 20; value = 9 } ∷ [])
unfolding ref_of rows_within degree square_root root_up_to part_len part_lens ideal_words
    ideal_words_within
late_contents = record {
  leaves = record { base = 11; row = low } ∷ record
      { base = 29; row = record { key = 20; value = 9 } } ∷ [];
  reached = row_here (target 11 1 233) refl
      (one_slot (leaf_here low refl)
      (one_slot (leaf_here record { key = 20; value = 9 } refl) no_slot));
  pairs_are = refl;
}
