-- The end of the log of a whole rebuild is lawful, and it leaves the contents. Serves
-- `examples.a_rebuild_is_lawful`.
use Rattle.std.proofs.Common.{◌≡◌, ℕ, zero, suc, ◌≢◌, true, [], ◌∷◌, slice_get, Some, refl, inl, inr, arith}
use Rattle.ist_core.specs.Types.{Reserve, Okay, Decide}
use Rattle.ist_core.specs.WordTerms.{degree, square_root, root_up_to, part_len, part_lens, ideal_words, ideal_words_within, InnerAt, ref_of, Change, rows_within, SlotHolds, in_anchor, in_row, anchor_is}
use Rattle.ist_core.specs.LogTerms.{state, Log, at_end, from_right, no_build, CanReserve, Lawful}
use Rattle.ist_core.specs.TreeTerms.{at_anchor, leaf_here, row_here, no_slot, one_slot, HasContents, IsStarted, CanInstall, a_finish, CanOkay, CanDecide, CanResolve}
use Rattle.ist_core.specs.ExampleLogs.{start_pairs, rebuild_started, rebuild_rooted, finish_rows, finish_installed, rebuild_replaced}
use Rattle.ist_core.proofs.OptionLemmas.{among-pieces_of}
use Rattle.ist_core.proofs.StartExampleLemmas.{two}
use Rattle.ist_core.proofs.RebuildExampleLemmas.{the_start, the_finish, the_rebuild, the_row, low, high, both, rooted_log}
use Rattle.ist_core.proofs.RefusalLemmas.{NotRefused, NoneDecidedNo, none_refused-with_row, none_refused-changed_at, slot_keeps, status_keeps, yes_keeps, root_keeps}

-- ---- no change was refused up to the start of the rebuild

-- no change was decided no in the new table
pub at_opening : NoneDecidedNo two.pieces
unfolding NotRefused rows_within degree square_root root_up_to part_len part_lens ideal_words
    ideal_words_within
at_opening base p e = grind (arith, among-pieces_of, NotRefused)

-- no change was decided no when the rebuild is started
pub none_refused_started : NoneDecidedNo (state two rebuild_started).pieces
unfolding NotRefused
none_refused_started =
    grind (
      arith,
      none_refused-with_row,
      the_start,
      the_rebuild,
      at_opening,
      none_refused-changed_at,
      slot_keeps,
      yes_keeps,
    )

-- ---- the finish

abbrev finish_held : Log
finish_held = Reserve 0 36 9 ∷ rebuild_rooted

none_refused : NoneDecidedNo (state two finish_held).pieces
unfolding NotRefused
none_refused =
    grind (
      arith,
      none_refused-changed_at,
      status_keeps,
      none_refused_started,
      none_refused-with_row,
      the_row,
      root_keeps,
    )

finish_reserved : CanReserve (state two rebuild_rooted) 0 36 9
finish_reserved = record {
  known = omega arith;
  base_is = refl;
  room = omega arith;
  fair = record {
    building = [];
    spare = 9 ∷ [];
    merge = from_right 9 at_end;
    builds = no_build;
    few = (inr (inr (inr (inl refl))), tt);
    one_each = ((λ k. k), tt);
  };
}

is_started : IsStarted (state two finish_held) 15
unfolding ref_of
is_started = record {
  base = 20;
  change = the_start 1;
  published = refl;
  kind = refl;
  decision = refl;
  to = refl;
}

-- no slot of the root is Unset
none_unset : (i word : ℕ) → slice_get (89 ∷ 105 ∷ []) i ≡ Some word → word ≢ 7
none_unset zero word e = λ k. let is : ◌≡◌ {A = ℕ} 89 word = cc in omega arith
none_unset (suc zero) word e = λ k. let is : ◌≡◌ {A = ℕ} 105 word = cc in omega arith
none_unset (suc (suc i)) word e = absurd (cc)

root_whole : (base i word : ℕ) → ref_of 234 ≡ Some (InnerAt base)
    → SlotHolds (state two finish_held) base i word → word ≢ 7
unfolding ref_of
root_whole base i word e (in_anchor at _ _) = grind arith
root_whole base i word e (in_row r published holds) = grind (arith, two, the_row, none_unset)

installed : CanInstall two finish_held 0 36 finish_rows
unfolding NotRefused ref_of rows_within ideal_words ideal_words_within
installed = record {
  known = omega arith;
  change = the_finish 0;
  fresh = [];
  rows_are = refl;
  held = (inl refl, tt);
  owned = refl;
  unset = refl;
  in_slot = in_anchor refl refl refl;
  linked = inl at_anchor;
  unrefused = λ base earlier e _ _. none_refused base (Change earlier) e;
  fits = a_finish record {
    kind = refl;
    key = refl;
    value = refl;
    rebuild = 15;
    row = the_rebuild 234;
    from = refl;
    published = refl;
    started = is_started;
    parent = refl;
    index = refl;
    to = refl;
    built = record { set = λ e. omega arith; whole = root_whole };
    fresh_are = refl;
  };
}

okayed : CanOkay (state two finish_installed) 0 36
okayed = record {
  known = omega arith;
  change = the_finish 0;
  pending = record
      { published = refl; unset = refl };
  node_open = anchor_is refl;
}

decided : CanDecide (state two (Okay 0 36 ∷ finish_installed)) (Okay 0 36 ∷ finish_installed) 0 36
    true
decided = record {
  known = omega arith;
  change = the_finish 0;
  pending = record
      { published = refl; unset = refl };
  outcome = inl refl;
}

resolved : CanResolve (state two (Decide 0 36 true ∷ Okay 0 36 ∷ finish_installed)) 0 36
resolved = record {
  known = omega arith;
  change = the_finish 1;
  published = refl;
  decided = λ e. omega arith;
  in_slot = in_anchor refl refl refl;
}

-- the log is lawful
pub rebuild_is_lawful : Lawful start_pairs 100 rebuild_replaced
rebuild_is_lawful = grind (arith, rooted_log, finish_reserved, installed, okayed, decided, resolved)

-- the contents are the start pairs
pub rebuild_contents : HasContents (state two rebuild_replaced) start_pairs
unfolding ref_of rows_within degree square_root root_up_to part_len part_lens ideal_words
    ideal_words_within
rebuild_contents = record {
  leaves = both;
  reached = row_here (the_row 0) refl
      (one_slot (leaf_here low refl) (one_slot (leaf_here high refl) no_slot));
  pairs_are = refl;
}
