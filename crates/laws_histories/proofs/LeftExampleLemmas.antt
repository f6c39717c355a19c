-- A due row below another is marked, passed and finished. Serves `examples`.
use Rattle.std.proofs.Common.{ℕ, true, [], ◌∷◌, refl, inl, inr, arith}
use Rattle.ist_core.specs.declared.states.ChangeRow.{ChangeRow}
use Rattle.ist_core.specs.declared.states.RebuildRow.{RebuildRow}
use Rattle.ist_core.specs.declared.events.Event.TheVariants.{Reserve, Okay, Decide, Mark, Pass}
use Rattle.ist_core.specs.WordTerms.{degree, square_root, root_up_to, part_len, part_lens, ideal_words, ideal_words_within, ref_of, start_kind, Change, rows_within, in_anchor, in_row, row_is}
use Rattle.ist_core.specs.LogTerms.{state, Log, CanReserve, EachEnabled}
use Rattle.ist_core.specs.TreeTerms.{IsChild, at_anchor, below, IsStarted, CanInstall, a_start, CanOkay, CanDecide, CanResolve, CanMark, as_target, CanPass, CanFinish, one_key, past_end, one_passed}
use Rattle.ist_core.proofs.AllLogLemmas.{NotRefused}
use Rattle.laws_histories.specs.ExampleRebuilds.{eight_puts, left_rows, left_installed, left_started, left_finished}
use Rattle.laws_histories.proofs.ReadyExampleLemmas.{three, left, top, rebuild_fair, start_fair}
use Rattle.laws_histories.proofs.DueExampleLemmas.{eight_puts_enabled, eight_puts_refuse}

-- ---- the start

-- the start, with a decision
abbrev pub the_start : ℕ → ChangeRow
the_start decision = record {
  decision = decision;
  kind = start_kind;
  node = 4;
  index = 0;
  from = 90;
  to = 900;
  owner = 0;
  key = 0;
  value = 0;
}

-- the rebuild, with its root
abbrev pub the_rebuild : ℕ → RebuildRow
the_rebuild root = record { target = 11; parent = 4; index = 0; root = root; draw = 0 }

-- the row of the rebuild may be reserved
rebuild_reserved : CanReserve (state three eight_puts) 0 112 5
unfolding ref_of rows_within degree square_root root_up_to part_len part_lens ideal_words ideal_words_within
rebuild_reserved = grind (arith, rebuild_fair)

-- the row of the start may be reserved
start_reserved : CanReserve (state three (Reserve 0 112 5 ∷ eight_puts)) 0 117 9
unfolding ref_of rows_within degree square_root root_up_to part_len part_lens ideal_words ideal_words_within
start_reserved = grind (arith, start_fair)

-- both rows are held
abbrev start_held : Log
start_held = Reserve 0 117 9 ∷ Reserve 0 112 5 ∷ eight_puts

-- the top row hangs below the anchor
top_hangs : IsChild (state three start_held) 2 0 4
unfolding ref_of rows_within degree square_root root_up_to part_len part_lens ideal_words ideal_words_within
top_hangs = record { word = 34; holds = in_anchor refl refl refl; reads = refl }

-- the start is installed
installed : CanInstall three start_held 0 117 left_rows
unfolding NotRefused ref_of rows_within degree square_root root_up_to part_len part_lens ideal_words ideal_words_within
installed = record {
  known = omega arith;
  change = the_start 0;
  fresh = record { base = 112; words = 11 ∷ 4 ∷ 0 ∷ 7 ∷ 0 ∷ [] } ∷ [];
  rows_are = refl;
  held = (inr (inl refl), (inl refl, tt));
  owned = refl;
  unset = refl;
  in_slot = in_row (top 0 90) refl refl;
  linked = inl (below 0 at_anchor top_hangs);
  unrefused = λ base earlier e _ _. eight_puts_refuse base (Change earlier) e;
  fits = a_start record {
    kind = refl;
    key = refl;
    value = refl;
    target = 11;
    row = left 0 8 809;
    from = refl;
    published = refl;
    due = inl (omega arith);
    rebuild = 112;
    to = refl;
    fresh_are = refl;
  };
}

-- the top row is seen open
okayed : CanOkay (state three left_installed) 0 117
unfolding ref_of rows_within degree square_root root_up_to part_len part_lens ideal_words ideal_words_within
okayed = record {
  known = omega arith;
  change = the_start 0;
  pending = record { published = refl; unset = refl };
  node_open = row_is (top 0 939) refl refl;
}

-- the start is decided
decided : CanDecide (state three (Okay 0 117 ∷ left_installed))
    (Okay 0 117 ∷ left_installed) 0 117 true
unfolding ref_of rows_within degree square_root root_up_to part_len part_lens ideal_words ideal_words_within
decided = record {
  known = omega arith;
  change = the_start 0;
  pending = record { published = refl; unset = refl };
  outcome = inl refl;
}

-- the start's change leaves the slot
resolved : CanResolve (state three (Decide 0 117 true ∷ Okay 0 117 ∷ left_installed)) 0 117
unfolding ref_of rows_within degree square_root root_up_to part_len part_lens ideal_words ideal_words_within
resolved = record {
  known = omega arith;
  change = the_start 1;
  published = refl;
  decided = λ e. omega arith;
  in_slot = in_row (top 0 939) refl refl;
}

-- the log is enabled up to the moment when the rebuild is in the top row's slot
started : EachEnabled three left_started
started =
    grind (
      arith,
      eight_puts_enabled,
      rebuild_reserved,
      start_reserved,
      installed,
      okayed,
      decided,
      resolved,
    )

-- ---- the left row is marked, passed and finished

-- the rebuild is started
is_started : IsStarted (state three left_started) 112
unfolding ref_of rows_within degree square_root root_up_to part_len part_lens ideal_words ideal_words_within
is_started = record {
  base = 117;
  change = the_start 1;
  published = refl;
  kind = refl;
  decision = refl;
  to = refl;
}

-- so its target may be marked
marked : CanMark (state three left_started) left_started 0 11
unfolding ref_of rows_within degree square_root root_up_to part_len part_lens ideal_words ideal_words_within
marked = record {
  known = omega arith;
  row = left 0 8 809;
  published = refl;
  row_open = refl;
  called = as_target 112 record { row = the_rebuild 7; published = refl; target_is = refl }
      is_started;
}

-- its first slot is passed
passed_low : CanPass (state three (Mark 0 11 ∷ left_started)) 0 11 0 809
unfolding ref_of rows_within degree square_root root_up_to part_len part_lens ideal_words ideal_words_within
passed_low = record {
  known = omega arith;
  row = left 1 8 809;
  published = refl;
  marked = refl;
  in_slot = refl;
  no_change = λ change e. cc;
  set = λ e. omega arith;
}

-- its second slot is passed
passed_high : CanPass (state three (Pass 0 11 0 809 ∷ Mark 0 11 ∷ left_started)) 0 11 1 161
unfolding ref_of rows_within degree square_root root_up_to part_len part_lens ideal_words ideal_words_within
passed_high = record {
  known = omega arith;
  row = left 1 8 809;
  published = refl;
  marked = refl;
  in_slot = refl;
  no_change = λ change e. cc;
  set = λ e. omega arith;
}

-- both slots are passed
abbrev both_passed : Log
both_passed = Pass 0 11 1 161 ∷ Pass 0 11 0 809 ∷ Mark 0 11 ∷ left_started

-- the row is finished with two keys
finished : CanFinish (state three both_passed) both_passed 0 11 2
unfolding ref_of rows_within degree square_root root_up_to part_len part_lens ideal_words ideal_words_within
finished = record {
  known = omega arith;
  row = left 1 8 809;
  published = refl;
  marked = refl;
  passed = let high = one_passed 161 (inl (refl, refl, refl)) one_key past_end in
      one_passed 809 (inr (inl (refl, refl, refl))) one_key high;
}

-- the log is enabled until the left row is finished
pub left_finished_enabled : EachEnabled three left_finished
left_finished_enabled = ((((started, marked), passed_low), passed_high), finished)
