-- The rows of a part of a shared root are reserved. Serves `examples`.
use Rattle.std.proofs.Common.{◌≡◌, ℕ, ◌+◌, ◌<◌, ◌≤◌, List, [], ◌∷◌, ◌++◌, Some, refl, subst, sym, arith}
use Rattle.ist_core.specs.declared.events.Event.TheVariants.{Reserve}
use Rattle.ist_core.specs.WordTerms.{degree, square_root, root_up_to, part_len, part_lens, ideal_words, ideal_words_within, shape, shape_within, ref_of, Inner, Change, Rebuild, rows_within}
use Rattle.ist_core.specs.LogTerms.{Snapshot, sizes_held, state, Log, IsBuild, build_part, IsFair, CanReserve, EachEnabled}
use Rattle.laws_histories.specs.ExampleShares.{finish_of, share_drawn, share_held}
use Rattle.laws_histories.proofs.ShareExampleLemmas.{many, share_start, share_rebuild, big_top}
use Rattle.laws_histories.proofs.ShareRootExampleLemmas.{many_are_shared, build_fair, share_drawn_enabled}

-- the sizes of the rows of a part
abbrev part_sizes : List ℕ
part_sizes = 11 ∷ 7 ∷ 7 ∷ 7 ∷ 7 ∷ 7 ∷ 7 ∷ 7 ∷ 7 ∷ 7 ∷ 7 ∷ 7 ∷ 7 ∷ []

-- these sizes are a build
part_builds : IsBuild 256 part_sizes
unfolding shape shape_within degree square_root root_up_to part_len part_lens
part_builds = build_part 0 many_are_shared (omega arith)

-- the table has the rebuild, with its root and one draw, and its target is finished
record IsDrawn (t : Snapshot) : Type 0 where
  rebuild : t.pieces 2071 ≡ Some (Rebuild (share_rebuild 16682 1))
  change : t.pieces 2076 ≡ Some (Change (share_start 1))
  target : t.pieces 4 ≡ Some (Inner (big_top 1027))

-- the next row of the part may be reserved
next_reserved : (log : Log) (base size : ℕ) (before rest : List ℕ)
    → (state many log).callers ≡ 1 → (state many log).next ≡ base
    → (state many log).words ≡ 3000 → base + size ≤ 3000 → sizes_held (state many log) 0 ≡ before
    → (before ++ size ∷ []) ++ rest ≡ part_sizes → IsDrawn (state many log)
    → CanReserve (state many log) 0 base size
unfolding ref_of
next_reserved log base size before rest callers next words room held all is = record {
  known = subst (λ n. 0 < n) (sym callers) (omega arith);
  base_is = sym next;
  room = subst (λ n. n + size ≤ (state many log).words) (sym next)
      (subst (λ n. base + size ≤ n) (sym words) room);
  fair = subst (λ sizes. IsFair (state many log) (sizes ++ size ∷ [])) (sym held)
      (build_fair (state many log) (before ++ size ∷ []) rest record {
        rebuild = 2071;
        row = share_rebuild 16682 1;
        published = is.rebuild;
        started = record {
          base = 2076;
          change = share_start 1;
          published = is.change;
          kind = refl;
          decision = refl;
          to = refl;
        };
        k = 256;
        finished = record { row = big_top 1027; published = is.target; status = refl };
        build = subst (λ sizes. IsBuild 256 sizes) (sym all) part_builds;
      });
}

-- row 1 of the part is reserved
abbrev one_held : Log
one_held = Reserve 0 2120 11 ∷ share_drawn

-- the log up to this row is enabled
one_held_enabled : EachEnabled many one_held
unfolding finish_of ref_of rows_within degree square_root root_up_to part_len part_lens ideal_words ideal_words_within
one_held_enabled = (
  share_drawn_enabled,
  next_reserved share_drawn 2120 11 ([]) (7 ∷ 7 ∷ 7 ∷ 7 ∷ 7 ∷ 7 ∷ 7 ∷ 7 ∷ 7 ∷ 7 ∷ 7 ∷ 7 ∷ [])
      refl refl refl (omega arith) refl refl record { rebuild = refl; change = refl; target = refl },
)

-- row 2 of the part is reserved
abbrev two_held : Log
two_held = Reserve 0 2131 7 ∷ one_held

-- the log up to this row is enabled
two_held_enabled : EachEnabled many two_held
unfolding finish_of ref_of rows_within degree square_root root_up_to part_len part_lens ideal_words ideal_words_within
two_held_enabled = (
  one_held_enabled,
  next_reserved one_held 2131 7 (11 ∷ []) (7 ∷ 7 ∷ 7 ∷ 7 ∷ 7 ∷ 7 ∷ 7 ∷ 7 ∷ 7 ∷ 7 ∷ 7 ∷ [])
      refl refl refl (omega arith) refl refl record { rebuild = refl; change = refl; target = refl },
)

-- row 3 of the part is reserved
abbrev three_held : Log
three_held = Reserve 0 2138 7 ∷ two_held

-- the log up to this row is enabled
three_held_enabled : EachEnabled many three_held
unfolding finish_of ref_of rows_within degree square_root root_up_to part_len part_lens ideal_words ideal_words_within
three_held_enabled = (
  two_held_enabled,
  next_reserved two_held 2138 7 (11 ∷ 7 ∷ []) (7 ∷ 7 ∷ 7 ∷ 7 ∷ 7 ∷ 7 ∷ 7 ∷ 7 ∷ 7 ∷ 7 ∷ [])
      refl refl refl (omega arith) refl refl record { rebuild = refl; change = refl; target = refl },
)

-- row 4 of the part is reserved
abbrev four_held : Log
four_held = Reserve 0 2145 7 ∷ three_held

-- the log up to this row is enabled
four_held_enabled : EachEnabled many four_held
unfolding finish_of ref_of rows_within degree square_root root_up_to part_len part_lens ideal_words ideal_words_within
four_held_enabled = (
  three_held_enabled,
  next_reserved three_held 2145 7 (11 ∷ 7 ∷ 7 ∷ []) (7 ∷ 7 ∷ 7 ∷ 7 ∷ 7 ∷ 7 ∷ 7 ∷ 7 ∷ 7 ∷ [])
      refl refl refl (omega arith) refl refl record { rebuild = refl; change = refl; target = refl },
)

-- row 5 of the part is reserved
abbrev five_held : Log
five_held = Reserve 0 2152 7 ∷ four_held

-- the log up to this row is enabled
five_held_enabled : EachEnabled many five_held
unfolding finish_of ref_of rows_within degree square_root root_up_to part_len part_lens ideal_words ideal_words_within
five_held_enabled = (
  four_held_enabled,
  next_reserved four_held 2152 7 (11 ∷ 7 ∷ 7 ∷ 7 ∷ []) (7 ∷ 7 ∷ 7 ∷ 7 ∷ 7 ∷ 7 ∷ 7 ∷ 7 ∷ [])
      refl refl refl (omega arith) refl refl record { rebuild = refl; change = refl; target = refl },
)

-- row 6 of the part is reserved
abbrev six_held : Log
six_held = Reserve 0 2159 7 ∷ five_held

-- the log up to this row is enabled
six_held_enabled : EachEnabled many six_held
unfolding finish_of ref_of rows_within degree square_root root_up_to part_len part_lens ideal_words ideal_words_within
six_held_enabled = (
  five_held_enabled,
  next_reserved five_held 2159 7 (11 ∷ 7 ∷ 7 ∷ 7 ∷ 7 ∷ []) (7 ∷ 7 ∷ 7 ∷ 7 ∷ 7 ∷ 7 ∷ 7 ∷ [])
      refl refl refl (omega arith) refl refl record { rebuild = refl; change = refl; target = refl },
)

-- row 7 of the part is reserved
abbrev seven_held : Log
seven_held = Reserve 0 2166 7 ∷ six_held

-- the log up to this row is enabled
seven_held_enabled : EachEnabled many seven_held
unfolding finish_of ref_of rows_within degree square_root root_up_to part_len part_lens ideal_words ideal_words_within
seven_held_enabled = (
  six_held_enabled,
  next_reserved six_held 2166 7 (11 ∷ 7 ∷ 7 ∷ 7 ∷ 7 ∷ 7 ∷ []) (7 ∷ 7 ∷ 7 ∷ 7 ∷ 7 ∷ 7 ∷ [])
      refl refl refl (omega arith) refl refl record { rebuild = refl; change = refl; target = refl },
)

-- row 8 of the part is reserved
abbrev eight_held : Log
eight_held = Reserve 0 2173 7 ∷ seven_held

-- the log up to this row is enabled
eight_held_enabled : EachEnabled many eight_held
unfolding finish_of ref_of rows_within degree square_root root_up_to part_len part_lens ideal_words ideal_words_within
eight_held_enabled = (
  seven_held_enabled,
  next_reserved seven_held 2173 7 (11 ∷ 7 ∷ 7 ∷ 7 ∷ 7 ∷ 7 ∷ 7 ∷ []) (7 ∷ 7 ∷ 7 ∷ 7 ∷ 7 ∷ [])
      refl refl refl (omega arith) refl refl record { rebuild = refl; change = refl; target = refl },
)

-- row 9 of the part is reserved
abbrev nine_held : Log
nine_held = Reserve 0 2180 7 ∷ eight_held

-- the log up to this row is enabled
nine_held_enabled : EachEnabled many nine_held
unfolding finish_of ref_of rows_within degree square_root root_up_to part_len part_lens ideal_words ideal_words_within
nine_held_enabled = (
  eight_held_enabled,
  next_reserved eight_held 2180 7 (11 ∷ 7 ∷ 7 ∷ 7 ∷ 7 ∷ 7 ∷ 7 ∷ 7 ∷ []) (7 ∷ 7 ∷ 7 ∷ 7 ∷ [])
      refl refl refl (omega arith) refl refl record { rebuild = refl; change = refl; target = refl },
)

-- row 10 of the part is reserved
abbrev ten_held : Log
ten_held = Reserve 0 2187 7 ∷ nine_held

-- the log up to this row is enabled
ten_held_enabled : EachEnabled many ten_held
unfolding finish_of ref_of rows_within degree square_root root_up_to part_len part_lens ideal_words ideal_words_within
ten_held_enabled = (
  nine_held_enabled,
  next_reserved nine_held 2187 7 (11 ∷ 7 ∷ 7 ∷ 7 ∷ 7 ∷ 7 ∷ 7 ∷ 7 ∷ 7 ∷ []) (7 ∷ 7 ∷ 7 ∷ [])
      refl refl refl (omega arith) refl refl record { rebuild = refl; change = refl; target = refl },
)

-- row 11 of the part is reserved
abbrev eleven_held : Log
eleven_held = Reserve 0 2194 7 ∷ ten_held

-- the log up to this row is enabled
eleven_held_enabled : EachEnabled many eleven_held
unfolding finish_of ref_of rows_within degree square_root root_up_to part_len part_lens ideal_words ideal_words_within
eleven_held_enabled = (
  ten_held_enabled,
  next_reserved ten_held 2194 7 (11 ∷ 7 ∷ 7 ∷ 7 ∷ 7 ∷ 7 ∷ 7 ∷ 7 ∷ 7 ∷ 7 ∷ []) (7 ∷ 7 ∷ [])
      refl refl refl (omega arith) refl refl record { rebuild = refl; change = refl; target = refl },
)

-- row 12 of the part is reserved
abbrev twelve_held : Log
twelve_held = Reserve 0 2201 7 ∷ eleven_held

-- the log up to this row is enabled
twelve_held_enabled : EachEnabled many twelve_held
unfolding finish_of ref_of rows_within degree square_root root_up_to part_len part_lens ideal_words ideal_words_within
twelve_held_enabled = (
  eleven_held_enabled,
  next_reserved eleven_held 2201 7 (11 ∷ 7 ∷ 7 ∷ 7 ∷ 7 ∷ 7 ∷ 7 ∷ 7 ∷ 7 ∷ 7 ∷ 7 ∷ []) (7 ∷ [])
      refl refl refl (omega arith) refl refl record { rebuild = refl; change = refl; target = refl },
)

-- the log up to this row is enabled
pub share_held_enabled : EachEnabled many share_held
unfolding finish_of ref_of rows_within degree square_root root_up_to part_len part_lens ideal_words ideal_words_within
share_held_enabled = (
  twelve_held_enabled,
  next_reserved twelve_held 2208 7 (11 ∷ 7 ∷ 7 ∷ 7 ∷ 7 ∷ 7 ∷ 7 ∷ 7 ∷ 7 ∷ 7 ∷ 7 ∷ 7 ∷ []) ([])
      refl refl refl (omega arith) refl refl record { rebuild = refl; change = refl; target = refl },
)
