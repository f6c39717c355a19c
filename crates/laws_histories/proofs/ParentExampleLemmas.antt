-- The finish of a rebuild below a marked row is decided no. Serves `examples`.
use Rattle.std.proofs.Common.{◌≡◌, ℕ, zero, suc, ◌≢◌, false, [], ◌∷◌, replicate, slice_get, Some, refl, inl, arith}
use Rattle.ist_core.specs.declared.commands.Command.TheVariants.{Put}
use Rattle.ist_core.specs.declared.states.LeafRow.{LeafRow}
use Rattle.ist_core.specs.declared.states.ChangeRow.{ChangeRow}
use Rattle.ist_core.specs.declared.events.Event.TheVariants.{Decide, Mark}
use Rattle.ist_core.specs.WordTerms.{degree, square_root, root_up_to, part_len, part_lens, ideal_words, ideal_words_within, InnerAt, ref_of, finish_kind, Change, Rebuild, with_slot, with_status, with_decision, rows_within, SlotHolds, IsOpen, in_anchor, in_row, anchor_is, row_is}
use Rattle.ist_core.specs.LogTerms.{state, CanReserve, Lawful}
use Rattle.ist_core.specs.TreeTerms.{IsChild, at_anchor, below, leaf_here, row_here, no_slot, one_slot, HasContents, IsStarted, CanInstall, a_finish, CanDecide, CanResolve, changes_of}
use Rattle.ist_core.proofs.AllLogLemmas.{NotRefused, NoneDecidedNo, none_refused-with_row, none_refused-changed_at, slot_keeps, status_keeps, yes_keeps}
use Rattle.laws_histories.specs.ExampleRebuilds.{three_pairs, top_started, top_marked, left_finish_rows, left_finish_installed, left_refused}
use Rattle.laws_histories.proofs.ReadyExampleLemmas.{three, three_open, ten, left, top, change_fair}
use Rattle.laws_histories.proofs.LeftExampleLemmas.{the_start, the_rebuild}
use Rattle.laws_histories.proofs.RootedExampleLemmas.{twenty, new_left}
use Rattle.laws_histories.proofs.TopExampleLemmas.{top_start, top_rebuild, rooted_refuse, top_enabled}

-- the finish, with a decision
abbrev the_finish : ℕ → ChangeRow
the_finish decision = record {
  decision = decision;
  kind = finish_kind;
  node = 4;
  index = 0;
  from = 900;
  to = 1010;
  owner = 0;
  key = 0;
  value = 0;
}

-- its row may be reserved
finish_reserved : CanReserve (state three (Mark 1 4 ∷ top_started)) 0 147 9
unfolding ref_of rows_within degree square_root root_up_to part_len part_lens ideal_words ideal_words_within
finish_reserved = grind (arith, change_fair)

-- no change was refused until then
marked_refuse : NoneDecidedNo (state three top_marked).pieces
unfolding NotRefused
marked_refuse =
    let with_rebuild = none_refused-with_row _ 133 (Rebuild top_rebuild) tt rooted_refuse in
    let installed =
    none_refused-with_row _ 138 (Change (top_start 0)) (λ e. omega arith) with_rebuild
    in
    let standing = none_refused-changed_at _ 2 (with_slot 0 1107) (slot_keeps 0 1107) installed in
    let decided = none_refused-changed_at _ 138 (with_decision 1) yes_keeps standing in
    let started = none_refused-changed_at _ 2 (with_slot 0 1068) (slot_keeps 0 1068) decided in
    none_refused-changed_at _ 4 (with_status 1) (status_keeps 1) started

-- the left rebuild is started
left_is_started : IsStarted (state three top_marked) 112
unfolding ref_of rows_within degree square_root root_up_to part_len part_lens ideal_words ideal_words_within
left_is_started = record {
  base = 117;
  change = the_start 1;
  published = refl;
  kind = refl;
  decision = refl;
  to = refl;
}

-- no slot of its root is Unset
none_unset : (i word : ℕ) → slice_get (809 ∷ 161 ∷ []) i ≡ Some word → word ≢ 7
none_unset zero word e = λ k. let is : ◌≡◌ {A = ℕ} 809 word = cc in omega arith
none_unset (suc zero) word e = λ k. let is : ◌≡◌ {A = ℕ} 161 word = cc in omega arith
none_unset (suc (suc i)) word e = absurd (cc)

-- so the root is built
root_whole : (base i word : ℕ) → ref_of 1010 ≡ Some (InnerAt base)
    → SlotHolds (state three top_marked) base i word → word ≢ 7
unfolding ref_of rows_within degree square_root root_up_to part_len part_lens ideal_words ideal_words_within
root_whole base i word e (in_anchor at _ _) = grind arith
root_whole base i word e (in_row r published holds) = grind (arith, three, new_left, none_unset)

-- the top row hangs below the anchor, under its rebuild
top_hangs : IsChild (state three top_marked) 2 0 4
unfolding ref_of rows_within degree square_root root_up_to part_len part_lens ideal_words ideal_words_within
top_hangs = record { word = 1068; holds = in_anchor refl refl refl; reads = refl }

-- the finish is installed after the mark
finish_installed : CanInstall three top_marked 0 147 left_finish_rows
unfolding NotRefused ref_of rows_within degree square_root root_up_to part_len part_lens ideal_words ideal_words_within
finish_installed = record {
  known = omega arith;
  change = the_finish 0;
  fresh = [];
  rows_are = refl;
  held = (inl refl, tt);
  owned = refl;
  unset = refl;
  in_slot = in_row (top 1 900) refl refl;
  linked = inl (below 0 at_anchor top_hangs);
  unrefused = λ base earlier e _ _. marked_refuse base (Change earlier) e;
  fits = a_finish record {
    kind = refl;
    key = refl;
    value = refl;
    rebuild = 112;
    row = the_rebuild 1010;
    from = refl;
    published = refl;
    started = left_is_started;
    parent = refl;
    index = refl;
    to = refl;
    built = record { set = λ e. omega arith; whole = root_whole };
    fresh_are = refl;
  };
}

-- the top row is marked, so only no is left
not_open : ¬ (IsOpen (state three left_finish_installed) 4)
unfolding ref_of rows_within degree square_root root_up_to part_len part_lens ideal_words ideal_words_within
not_open (anchor_is e) = omega arith
not_open (row_is r e s) = let one : ◌≡◌ {A = ℕ} 1 r.status = cc in omega arith

-- it is decided no
refused : CanDecide (state three left_finish_installed) left_finish_installed 0 147 false
unfolding ref_of rows_within degree square_root root_up_to part_len part_lens ideal_words ideal_words_within
refused = record {
  known = omega arith;
  change = the_finish 0;
  pending = record { published = refl; unset = refl };
  outcome = not_open;
}

-- the finish leaves the slot
resolved : CanResolve (state three (Decide 0 147 false ∷ left_finish_installed)) 0 147
unfolding ref_of rows_within degree square_root root_up_to part_len part_lens ideal_words ideal_words_within
resolved = record {
  known = omega arith;
  change = the_finish 2;
  published = refl;
  decided = λ e. omega arith;
  in_slot = in_row (top 1 1179) refl refl;
}

-- the log is lawful
pub left_refused_is_lawful : Lawful three_pairs 200 left_refused
left_refused_is_lawful =
    grind (arith, three_open, top_enabled, finish_reserved, finish_installed, refused, resolved)

-- the leaf of the key 30
abbrev thirty : LeafRow
thirty = record { key = 30; value = 3 }

-- the contents are the same as at the start
pub left_refused_contents : HasContents (state three left_refused) three_pairs
unfolding ref_of rows_within degree square_root root_up_to part_len part_lens ideal_words ideal_words_within
left_refused_contents =
    let low = one_slot (leaf_here ten refl) (one_slot (leaf_here twenty refl) no_slot) in record {
      leaves = record { base = 101; row = ten } ∷ record { base = 20; row = twenty }
          ∷ record { base = 22; row = thirty } ∷ [];
      reached = row_here (top 1 900) refl
          (one_slot (row_here (left 11 8 809) refl low) (one_slot (leaf_here thirty refl) no_slot));
      pairs_are = refl;
    }

-- the rebuild is in its slot again
pub left_refused_slot : SlotHolds (state three left_refused) 4 0 900
unfolding ref_of rows_within degree square_root root_up_to part_len part_lens ideal_words ideal_words_within
left_refused_slot = in_row (top 1 900) refl refl

-- the puts are the changes
pub left_refused_changes : changes_of three_pairs 200 left_refused
    ≡ replicate 8 record { owner = 0; command = Put 10 1; reply = Some 1 }
unfolding ref_of rows_within degree square_root root_up_to part_len part_lens ideal_words ideal_words_within
left_refused_changes = refl
