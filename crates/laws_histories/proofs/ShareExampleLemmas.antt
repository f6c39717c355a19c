-- The rebuild of a tree of 256 keys is started, and its target is finished. Serves `examples`.
use Rattle.std.proofs.Common.{◌≡◌, ℕ, Bool, true, false, List, [], ◌∷◌, Some, refl, inl, inr, subst, arith}
use Rattle.std.proofs.lemmas.Bool.{false≢true}
use Rattle.ist_core.specs.declared.states.InnerRow.{InnerRow}
use Rattle.ist_core.specs.declared.states.ChangeRow.{ChangeRow}
use Rattle.ist_core.specs.declared.states.RebuildRow.{RebuildRow}
use Rattle.ist_core.specs.declared.events.Event.TheVariants.{Enter, Reserve, Okay, Decide}
use Rattle.ist_core.specs.WordTerms.{degree, square_root, root_up_to, part_len, part_lens, ideal_words, ideal_words_within, ref_of, start_kind, Piece, Leaf, Inner, Change, Rebuild, first_row, start, rows_within, rows_from, in_anchor, anchor_is}
use Rattle.ist_core.specs.LogTerms.{Snapshot, state, CanEnter, CanReserve, EachEnabled, Among}
use Rattle.ist_core.specs.TreeTerms.{at_anchor, IsStarted, CanInstall, a_start, CanOkay, CanDecide, CanResolve, CanMark, as_target}
use Rattle.ist_core.proofs.AllWordLemmas.{among-pieces_of}
use Rattle.laws_histories.specs.ExampleShares.{many_pairs, top_keys, share_rows, share_installed, share_started, share_marked, finish_of, share_finished}
use Rattle.laws_histories.proofs.ReadyExampleLemmas.{rebuild_fair, start_fair}
use Rattle.laws_histories.proofs.EventTestLemmas.{each_by, known}

-- the table at its start
abbrev pub many : Snapshot
many = start many_pairs 3000

-- the start, with a decision
abbrev pub share_start : ℕ → ChangeRow
share_start decision = record {
  decision = decision;
  kind = start_kind;
  node = 2;
  index = 0;
  from = 34;
  to = 16572;
  owner = 0;
  key = 0;
  value = 0;
}

-- caller 0 enters
entered : CanEnter many 0
entered = record { number = refl; below_limit = omega arith }

-- the row of the rebuild may be reserved
rebuild_reserved : CanReserve (state many (Enter 0 ∷ [])) 0 2071 5
unfolding ref_of rows_within degree square_root root_up_to part_len part_lens ideal_words ideal_words_within
rebuild_reserved =
    record { known = omega arith; base_is = refl; room = omega arith; fair = rebuild_fair _ }

-- the row of the start may be reserved
start_reserved : CanReserve (state many (Reserve 0 2071 5 ∷ Enter 0 ∷ [])) 0 2076 9
unfolding ref_of rows_within degree square_root root_up_to part_len part_lens ideal_words ideal_words_within
start_reserved =
    record { known = omega arith; base_is = refl; room = omega arith; fair = start_fair _ }

-- the slots of the top row
abbrev pub top_slots : List ℕ
top_slots = 314 ∷ 1330 ∷ 2346 ∷ 3362 ∷ 4378 ∷ 5394 ∷ 6410 ∷ 7426
    ∷ 8442 ∷ 9458 ∷ 10474 ∷ 11490 ∷ 12506 ∷ 13522 ∷ 14538 ∷ 15554 ∷ []

-- the top row, with a status
abbrev pub big_top : ℕ → InnerRow
big_top status = record {
  status = status;
  count = 0;
  degree = 16;
  size = 256;
  keys = top_keys;
  slots = top_slots;
}

-- the row is a change
IsChange : Piece → Type 0
IsChange (Change r) = Unit {0}
IsChange _ = ⊥

-- the rows have no change
plain : List (ℕ × Piece) → Bool
plain [] = true
plain ((base, Change r) ∷ rows) = false
plain ((base, Leaf r) ∷ rows) = plain rows
plain ((base, Inner r) ∷ rows) = plain rows
plain ((base, Rebuild r) ∷ rows) = plain rows

-- no change is among plain rows
among_unchanged : (rows : List (ℕ × Piece)) → plain rows ≡ true → (base : ℕ) (change : ChangeRow)
    → Among (base, Change change) rows → ⊥
unfolding plain IsChange
among_unchanged [] e base change k = k
among_unchanged ((b, Change r) ∷ rows) e base change k = false≢true e
among_unchanged ((b, Leaf r) ∷ rows) e base change (inl k) = subst (λ row. IsChange row.1) k tt
among_unchanged ((b, Leaf r) ∷ rows) e base change (inr k) = among_unchanged rows e base change k
among_unchanged ((b, Inner r) ∷ rows) e base change (inl k) = subst (λ row. IsChange row.1) k tt
among_unchanged ((b, Inner r) ∷ rows) e base change (inr k) = among_unchanged rows e base change k
among_unchanged ((b, Rebuild r) ∷ rows) e base change (inl k) = subst (λ row. IsChange row.1) k tt
among_unchanged ((b, Rebuild r) ∷ rows) e base change (inr k) = among_unchanged rows e base change k

-- the new table has no change
all_plain : plain (rows_from first_row many_pairs) ≡ true
unfolding plain rows_within degree square_root root_up_to part_len part_lens ideal_words ideal_words_within
all_plain = refl

-- no change lies in the new table
unchanged : (base : ℕ) (change : ChangeRow) → many.pieces base ≡ Some (Change change) → ⊥
unchanged base change e = among_unchanged (rows_from first_row many_pairs) all_plain base change
    (among-pieces_of (rows_from first_row many_pairs) base (Change change) e)

-- the start is installed
installed : CanInstall many (Reserve 0 2076 9 ∷ Reserve 0 2071 5 ∷ Enter 0 ∷ []) 0 2076 share_rows
unfolding ref_of rows_within degree square_root root_up_to part_len part_lens ideal_words ideal_words_within
installed = record {
  known = omega arith;
  change = share_start 0;
  fresh = record { base = 2071; words = 4 ∷ 2 ∷ 0 ∷ 7 ∷ 0 ∷ [] } ∷ [];
  rows_are = refl;
  held = (inr (inl refl), (inl refl, tt));
  owned = refl;
  unset = refl;
  in_slot = in_anchor refl refl refl;
  linked = inl at_anchor;
  unrefused = λ base earlier e _ _ _. absurd (unchanged base earlier e);
  fits = a_start record {
    kind = refl;
    key = refl;
    value = refl;
    target = 4;
    row = big_top 0;
    from = refl;
    published = refl;
    due = inr refl;
    rebuild = 2071;
    to = refl;
    fresh_are = refl;
  };
}

-- the anchor is open
okayed : CanOkay (state many share_installed) 0 2076
unfolding ref_of rows_within degree square_root root_up_to part_len part_lens ideal_words ideal_words_within
okayed = record {
  known = omega arith;
  change = share_start 0;
  pending = record { published = refl; unset = refl };
  node_open = anchor_is refl;
}

-- the start is decided
decided : CanDecide (state many (Okay 0 2076 ∷ share_installed))
    (Okay 0 2076 ∷ share_installed) 0 2076 true
unfolding ref_of rows_within degree square_root root_up_to part_len part_lens ideal_words ideal_words_within
decided = record {
  known = omega arith;
  change = share_start 0;
  pending = record { published = refl; unset = refl };
  outcome = inl refl;
}

-- the start's change leaves the slot
resolved : CanResolve (state many (Decide 0 2076 true ∷ Okay 0 2076 ∷ share_installed)) 0 2076
unfolding ref_of rows_within degree square_root root_up_to part_len part_lens ideal_words ideal_words_within
resolved = record {
  known = omega arith;
  change = share_start 1;
  published = refl;
  decided = λ e. omega arith;
  in_slot = in_anchor refl refl refl;
}

-- the rebuild is started
is_started : IsStarted (state many share_started) 2071
unfolding ref_of rows_within degree square_root root_up_to part_len part_lens ideal_words ideal_words_within
is_started = record {
  base = 2076;
  change = share_start 1;
  published = refl;
  kind = refl;
  decision = refl;
  to = refl;
}

-- the rebuild
abbrev pub share_rebuild : ℕ → ℕ → RebuildRow
share_rebuild root draw = record { target = 4; parent = 2; index = 0; root = root; draw = draw }

-- so its target may be marked
marked : CanMark (state many share_started) share_started 0 4
unfolding ref_of rows_within degree square_root root_up_to part_len part_lens ideal_words ideal_words_within
marked = record {
  known = omega arith;
  row = big_top 0;
  published = refl;
  row_open = refl;
  called = as_target 2071 record { row = share_rebuild 7 0; published = refl; target_is = refl }
      is_started;
}

-- the log is enabled until then
marked_enabled : EachEnabled many share_marked
marked_enabled =
    grind (
      arith,
      entered,
      rebuild_reserved,
      start_reserved,
      installed,
      okayed,
      decided,
      resolved,
      marked,
    )

-- the log is enabled until the whole tree is finished
pub share_finished_enabled : EachEnabled many share_finished
unfolding finish_of ref_of rows_within degree square_root root_up_to part_len part_lens ideal_words ideal_words_within
share_finished_enabled =
    known (each_by many (finish_of 4 4 many_pairs) share_marked marked_enabled) refl
