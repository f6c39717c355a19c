-- The log of one put is lawful. Serves `examples`.
use Rattle.std.proofs.Common.{ℕ, ◌⊎◌, true, [], ◌∷◌, refl, inl, inr, arith, ⊎_elim}
use Rattle.ist_core.specs.Types.{ChangeRow, Enter, Reserve, Okay}
use Rattle.ist_core.specs.WordTerms.{ideal_words, ideal_words_within, ref_of, put_kind, start, rows_within, in_anchor, anchor_is, of_anchor}
use Rattle.ist_core.specs.LogTerms.{Snapshot, state, at_end, from_right, no_build, CanEnter, CanReserve, Lawful, CanOpen}
use Rattle.ist_core.specs.TreeTerms.{at_anchor, from_anchor, CanInstall, nothing, a_put, CanOkay, CanDecide, CanResolve}
use Rattle.ist_core.specs.ExampleLogs.{put_rows, put_reserved, put_installed, put_decided, put_resolved}

-- the change, with a decision
abbrev the_put : ℕ → ChangeRow
the_put decision = record {
  decision = decision;
  kind = put_kind;
  node = 2;
  index = 0;
  from = 0;
  to = 33;
  owner = 0;
  key = 1;
  value = 1;
}

abbrev empty : Snapshot
empty = start [] 15

opens : CanOpen [] 15
unfolding ideal_words ideal_words_within
opens = record { rising = λ k h. absurd (omega arith); room = omega arith; within = omega arith }

entered : CanEnter empty 0
entered = record { number = refl; below_limit = omega arith }

leaf_reserved : CanReserve (state empty (Enter 0 ∷ [])) 0 4 2
unfolding ideal_words ideal_words_within
leaf_reserved = record {
  known = omega arith;
  base_is = refl;
  room = omega arith;
  fair = record {
    building = [];
    spare = 2 ∷ [];
    merge = from_right 2 at_end;
    builds = no_build;
    few = (inl refl, tt);
    one_each = ((λ k. k), tt);
  };
}

change_reserved : CanReserve (state empty (Reserve 0 4 2 ∷ Enter 0 ∷ [])) 0 6 9
change_reserved = record {
  known = omega arith;
  base_is = refl;
  room = omega arith;
  fair = record {
    building = [];
    spare = 2 ∷ 9 ∷ [];
    merge = from_right 2 (from_right 9 at_end);
    builds = no_build;
    few = (inl refl, (inr (inr (inr (inl refl))), tt));
    one_each = (⊎_elim (λ k. omega arith) (λ k. k), ((λ k. k), tt));
  };
}

installed : CanInstall empty put_reserved 0 6 put_rows
unfolding rows_within ref_of
installed = record {
  known = omega arith;
  change = the_put 0;
  fresh = record { base = 4; words = 1 ∷ 1 ∷ [] } ∷ [];
  rows_are = refl;
  held = (inr (inl refl), (inl refl, tt));
  owned = refl;
  unset = refl;
  in_slot = in_anchor refl refl refl;
  linked = inr (inr (inr at_anchor));
  unrefused = λ base earlier e _ _ _. cc;
  fits = a_put record {
    kind = refl;
    by_key = record { led = inl from_anchor; index = of_anchor refl refl };
    from = nothing refl;
    leaf = 4;
    to = refl;
    fresh_are = refl;
  };
}

okayed : CanOkay (state empty put_installed) 0 6
unfolding rows_within
okayed = record {
  known = omega arith;
  change = the_put 0;
  pending = record
      { published = refl; unset = refl };
  node_open = anchor_is refl;
}

decided : CanDecide (state empty (Okay 0 6 ∷ put_installed)) (Okay 0 6 ∷ put_installed) 0 6 true
unfolding rows_within
decided = record {
  known = omega arith;
  change = the_put 0;
  pending = record
      { published = refl; unset = refl };
  outcome = inl refl;
}

resolved : CanResolve (state empty put_decided) 0 6
unfolding rows_within
resolved = record {
  known = omega arith;
  change = the_put 1;
  published = refl;
  decided = λ e. omega arith;
  in_slot = in_anchor refl refl refl;
}

-- the log is lawful
pub put_is_lawful : Lawful [] 15 put_resolved
put_is_lawful =
    grind (
      arith,
      opens,
      entered,
      leaf_reserved,
      change_reserved,
      installed,
      okayed,
      decided,
      resolved,
    )
