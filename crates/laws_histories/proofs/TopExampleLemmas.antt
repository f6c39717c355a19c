-- A row is marked while the rebuild of its child has its root. Serves `examples`.
use Rattle.std.proofs.Common.{ℕ, true, [], ◌∷◌, refl, inl, inr, arith}
use Rattle.ist_core.specs.declared.states.ChangeRow.{ChangeRow}
use Rattle.ist_core.specs.declared.states.RebuildRow.{RebuildRow}
use Rattle.ist_core.specs.declared.events.Event.TheVariants.{Reserve, Okay, Decide, Mark}
use Rattle.ist_core.specs.WordTerms.{degree, square_root, root_up_to, part_len, part_lens, ideal_words, ideal_words_within, ref_of, start_kind, Inner, Change, Rebuild, with_slot, with_status, with_decision, with_root, rows_within, in_anchor, anchor_is}
use Rattle.ist_core.specs.LogTerms.{state, CanReserve, EachEnabled}
use Rattle.ist_core.specs.TreeTerms.{at_anchor, IsStarted, CanInstall, a_start, CanOkay, CanDecide, CanResolve, CanMark, as_target}
use Rattle.ist_core.proofs.AllLogLemmas.{NotRefused, NoneDecidedNo, none_refused-with_row, none_refused-changed_at, slot_keeps, status_keeps, yes_keeps, root_keeps}
use Rattle.laws_histories.specs.ExampleRebuilds.{left_rooted, top_rows, top_installed, top_started}
use Rattle.laws_histories.proofs.ReadyExampleLemmas.{three, top, rebuild_fair, start_fair}
use Rattle.laws_histories.proofs.DueExampleLemmas.{eight_puts_refuse}
use Rattle.laws_histories.proofs.LeftExampleLemmas.{the_start, the_rebuild}
use Rattle.laws_histories.proofs.RootedExampleLemmas.{new_left, left_rooted_enabled}

-- its start, with a decision
abbrev pub top_start : ℕ → ChangeRow
top_start decision = record {
  decision = decision;
  kind = start_kind;
  node = 2;
  index = 0;
  from = 34;
  to = 1068;
  owner = 1;
  key = 0;
  value = 0;
}

-- the rebuild
abbrev pub top_rebuild : RebuildRow
top_rebuild = record { target = 4; parent = 2; index = 0; root = 7; draw = 0 }

-- no change was refused until the left rebuild has its root
pub rooted_refuse : NoneDecidedNo (state three left_rooted).pieces
unfolding NotRefused
rooted_refuse =
    let with_rebuild = none_refused-with_row _ 112 (Rebuild (the_rebuild 7)) tt eight_puts_refuse in
    let installed =
    none_refused-with_row _ 117 (Change (the_start 0)) (λ e. omega arith) with_rebuild
    in
    let standing = none_refused-changed_at _ 4 (with_slot 0 939) (slot_keeps 0 939) installed in
    let decided = none_refused-changed_at _ 117 (with_decision 1) yes_keeps standing in
    let started = none_refused-changed_at _ 4 (with_slot 0 900) (slot_keeps 0 900) decided in
    let marked = none_refused-changed_at _ 11 (with_status 1) (status_keeps 1) started in
    let finished = none_refused-changed_at _ 11 (with_status 11) (status_keeps 11) marked in
    let with_new = none_refused-with_row _ 126 (Inner new_left) tt finished in
    none_refused-changed_at _ 112 (with_root 1010) (root_keeps 1010) with_new

-- the row of the rebuild may be reserved
rebuild_reserved : CanReserve (state three left_rooted) 1 133 5
unfolding ref_of rows_within degree square_root root_up_to part_len part_lens ideal_words ideal_words_within
rebuild_reserved = grind (arith, rebuild_fair)

-- the row of the start may be reserved
start_reserved : CanReserve (state three (Reserve 1 133 5 ∷ left_rooted)) 1 138 9
unfolding ref_of rows_within degree square_root root_up_to part_len part_lens ideal_words ideal_words_within
start_reserved = grind (arith, start_fair)

-- the start is installed
start_installed : CanInstall three (Reserve 1 138 9 ∷ Reserve 1 133 5 ∷ left_rooted) 1 138 top_rows
unfolding NotRefused ref_of rows_within degree square_root root_up_to part_len part_lens ideal_words ideal_words_within
start_installed = record {
  known = omega arith;
  change = top_start 0;
  fresh = record { base = 133; words = 4 ∷ 2 ∷ 0 ∷ 7 ∷ 0 ∷ [] } ∷ [];
  rows_are = refl;
  held = (inr (inl refl), (inl refl, tt));
  owned = refl;
  unset = refl;
  in_slot = in_anchor refl refl refl;
  linked = inl at_anchor;
  unrefused = λ base earlier e _ _. rooted_refuse base (Change earlier) e;
  fits = a_start record {
    kind = refl;
    key = refl;
    value = refl;
    target = 4;
    row = top 0 900;
    from = refl;
    published = refl;
    due = inr refl;
    rebuild = 133;
    to = refl;
    fresh_are = refl;
  };
}

-- the anchor is open
start_okayed : CanOkay (state three top_installed) 1 138
unfolding ref_of rows_within degree square_root root_up_to part_len part_lens ideal_words ideal_words_within
start_okayed = record {
  known = omega arith;
  change = top_start 0;
  pending = record { published = refl; unset = refl };
  node_open = anchor_is refl;
}

-- the start is decided
start_decided : CanDecide (state three (Okay 1 138 ∷ top_installed))
    (Okay 1 138 ∷ top_installed) 1 138 true
unfolding ref_of rows_within degree square_root root_up_to part_len part_lens ideal_words ideal_words_within
start_decided = record {
  known = omega arith;
  change = top_start 0;
  pending = record { published = refl; unset = refl };
  outcome = inl refl;
}

-- the start's change leaves the slot
start_resolved : CanResolve (state three (Decide 1 138 true ∷ Okay 1 138 ∷ top_installed)) 1 138
unfolding ref_of rows_within degree square_root root_up_to part_len part_lens ideal_words ideal_words_within
start_resolved = record {
  known = omega arith;
  change = top_start 1;
  published = refl;
  decided = λ e. omega arith;
  in_slot = in_anchor refl refl refl;
}

-- so the rebuild of the top row is started
top_is_started : IsStarted (state three top_started) 133
unfolding ref_of rows_within degree square_root root_up_to part_len part_lens ideal_words ideal_words_within
top_is_started = record {
  base = 138;
  change = top_start 1;
  published = refl;
  kind = refl;
  decision = refl;
  to = refl;
}

-- the top row may be marked
top_is_marked : CanMark (state three top_started) top_started 1 4
unfolding ref_of rows_within degree square_root root_up_to part_len part_lens ideal_words ideal_words_within
top_is_marked = record {
  known = omega arith;
  row = top 0 900;
  published = refl;
  row_open = refl;
  called = as_target 133 record { row = top_rebuild; published = refl; target_is = refl }
      top_is_started;
}

-- the log is enabled until the top row is marked
pub top_enabled : EachEnabled three (Mark 1 4 ∷ top_started)
top_enabled =
    grind (
      arith,
      left_rooted_enabled,
      rebuild_reserved,
      start_reserved,
      start_installed,
      start_okayed,
      start_decided,
      start_resolved,
      top_is_marked,
    )
