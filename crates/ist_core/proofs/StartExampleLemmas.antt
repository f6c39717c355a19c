-- The log of one start is lawful, and a new table has its words. Serves `examples`.
use Rattle.std.proofs.Common.{◌≡◌, ℕ, zero, suc, ◌-◌, ◌<◌, ◌≤◌, ◌⊎◌, [], ◌∷◌, map, drop, slice_get, Some, refl, inl, inr, subst, sym, arith}
use Rattle.std.specs.List.Sorted.{IsStrictlyIncreasing}
use Rattle.ist_core.specs.Types.{ChangeRow, InnerRow, Enter, Reserve}
use Rattle.ist_core.specs.WordTerms.{degree, square_root, root_up_to, part_len, part_lens, ideal_words, ideal_words_within, ref_of, start_kind, Piece, Change, start, rows_within, rows_from, IsImage, StandsAt, in_anchor, first_row}
use Rattle.ist_core.specs.LogTerms.{Snapshot, Log, state, at_end, from_right, no_build, CanEnter, CanReserve, Lawful, CanOpen, Among}
use Rattle.ist_core.specs.TreeTerms.{at_anchor, CanInstall, a_start}
use Rattle.ist_core.specs.ExampleLogs.{start_pairs, start_rows, start_installed}
use Rattle.ist_core.specs.ExampleTables.{two_pairs, two_pairs_words, ten_pairs, ten_rows}
use Rattle.ist_core.proofs.OptionLemmas.{among-pieces_of, slice_get-drop, stands_by}

-- each row of the new table is found among its words
rows_stand : (base : ℕ) (p : Piece) → Among (base, p) (rows_from first_row two_pairs)
    → StandsAt two_pairs_words base p
unfolding ideal_words ideal_words_within rows_within degree square_root root_up_to part_len
    part_lens
rows_stand base p (inl e) = grind (arith, stands_by)
rows_stand base p (inr (inl e)) = grind (arith, stands_by)
rows_stand base p (inr (inr (inl e))) = grind (arith, stands_by)
rows_stand base p (inr (inr (inr e))) = absurd e

five_zeros : (k : ℕ) → k < 5 → slice_get (drop 15 two_pairs_words) k ≡ Some 0
five_zeros zero h = refl
five_zeros (suc zero) h = refl
five_zeros (suc (suc zero)) h = refl
five_zeros (suc (suc (suc zero))) h = refl
five_zeros (suc (suc (suc (suc zero)))) h = refl
five_zeros (suc (suc (suc (suc (suc k))))) h = absurd (omega arith)

after_rows : (place : ℕ) → 15 ≤ place → place < 20 → slice_get two_pairs_words place ≡ Some 0
after_rows place low high = grind (arith, slice_get-drop, five_zeros)

-- the words of a new table
pub two_pairs_open : IsImage (start two_pairs 20) two_pairs_words
unfolding ideal_words ideal_words_within degree square_root root_up_to part_len part_lens
two_pairs_open = record {
  size = refl;
  next = refl;
  callers = refl;
  anchor_status = refl;
  anchor_slot = refl;
  rows = λ base p e. rows_stand base p (among-pieces_of (rows_from first_row two_pairs) base p e);
  free = λ place low high. after_rows place low high;
}

-- the rows of a larger one
pub ten_laid : rows_from first_row ten_pairs ≡ ten_rows
unfolding ideal_words ideal_words_within rows_within degree square_root root_up_to part_len
    part_lens
ten_laid = refl

-- the new table of the start pairs
abbrev pub two : Snapshot
two = start start_pairs 100

-- the start, with a decision
abbrev the_start : ChangeRow
the_start = record {
  decision = 0;
  kind = start_kind;
  node = 2;
  index = 0;
  from = 34;
  to = 124;
  owner = 0;
  key = 0;
  value = 0;
}

-- the row over the two pairs
abbrev the_row : InnerRow
the_row = record {
  status = 0;
  count = 0;
  degree = 2;
  size = 2;
  keys = 20 ∷ [];
  slots = 89 ∷ 105 ∷ [];
}

rising : IsStrictlyIncreasing (map (λ pair. pair.key) start_pairs)
rising zero h = omega arith
rising (suc k) h = absurd (omega arith)

opens : CanOpen start_pairs 100
unfolding ideal_words ideal_words_within degree square_root root_up_to part_len part_lens
opens = record { rising = λ k h. rising k h; room = omega arith; within = omega arith }

entered : CanEnter two 0
entered = record { number = refl; below_limit = omega arith }

rebuild_reserved : CanReserve (state two (Enter 0 ∷ [])) 0 15 5
unfolding ideal_words ideal_words_within degree square_root root_up_to part_len part_lens
rebuild_reserved = record {
  known = omega arith;
  base_is = refl;
  room = omega arith;
  fair = record {
    building = [];
    spare = 5 ∷ [];
    merge = from_right 5 at_end;
    builds = no_build;
    few = (inr (inl refl), tt);
    one_each = ((λ k. k), tt);
  };
}

change_reserved : CanReserve (state two (Reserve 0 15 5 ∷ Enter 0 ∷ [])) 0 20 9
change_reserved = record {
  known = omega arith;
  base_is = refl;
  room = omega arith;
  fair = record {
    building = [];
    spare = 5 ∷ 9 ∷ [];
    merge = from_right 5 (from_right 9 at_end);
    builds = no_build;
    few = (inr (inl refl), (inr (inr (inr (inl refl))), tt));
    one_each = ((λ k. apart k), ((λ k. k), tt));
  };
}
  where
    apart : (◌≡◌ {A = ℕ} 5 9) ⊎ ⊥ → ⊥
    apart (inl e) = omega arith
    apart (inr e) = e

abbrev reserved : Log
reserved = Reserve 0 20 9 ∷ Reserve 0 15 5 ∷ Enter 0 ∷ []

-- the row is no change
NoChange : Piece → Type 0
NoChange (Change r) = ⊥
NoChange _ = Unit {0}

-- no change lies in the new table
unchanged : (base : ℕ) (change : ChangeRow)
    → Among (base, Change change) (rows_from first_row start_pairs) → ⊥
unfolding NoChange ideal_words ideal_words_within rows_within degree square_root root_up_to part_len
    part_lens
unchanged base change (inl e) = subst (λ row. NoChange row.1) (sym e) tt
unchanged base change (inr (inl e)) = subst (λ row. NoChange row.1) (sym e) tt
unchanged base change (inr (inr (inl e))) = subst (λ row. NoChange row.1) (sym e) tt
unchanged base change (inr (inr (inr e))) = e

installed : CanInstall two reserved 0 20 start_rows
unfolding rows_within ref_of ideal_words ideal_words_within degree square_root root_up_to part_len
    part_lens
installed = record {
  known = omega arith;
  change = the_start;
  fresh = record { base = 15; words = 4 ∷ 2 ∷ 0 ∷ 7 ∷ 0 ∷ [] } ∷ [];
  rows_are = refl;
  held = (inr (inl refl), (inl refl, tt));
  owned = refl;
  unset = refl;
  in_slot = in_anchor refl refl refl;
  linked = inr (inr (inr at_anchor));
  unrefused = λ base earlier e _ _ _. absurd
      (unchanged base earlier (among-pieces_of (rows_from first_row start_pairs) base
      (Change earlier) e));
  fits = a_start record {
    kind = refl;
    key = refl;
    value = refl;
    target = 4;
    row = the_row;
    from = refl;
    published = refl;
    due = inr refl;
    rebuild = 15;
    to = refl;
    fresh_are = refl;
  };
}

-- the log is lawful
pub start_is_lawful : Lawful start_pairs 100 start_installed
start_is_lawful = grind (arith, opens, entered, rebuild_reserved, change_reserved, installed)
