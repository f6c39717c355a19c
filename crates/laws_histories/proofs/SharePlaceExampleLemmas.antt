-- The first part of a shared root is placed. Serves `examples`.
use Rattle.std.proofs.Common.{◌≡◌, List, [], ◌∷◌, ◌++◌, replicate, slice_get, Some, refl, arith}
use Rattle.ist_core.specs.declared.states.InnerRow.{InnerRow}
use Rattle.ist_core.specs.WordTerms.{degree, square_root, root_up_to, part_len, part_lens, ideal_words, ideal_words_within, InnerAt, ref_of, parts, rows_within, IsIdeal, of_more, no_part, one_part}
use Rattle.ist_core.specs.LogTerms.{Distinct, bases_of, HoldsRows, state, EachEnabled}
use Rattle.ist_core.specs.TreeTerms.{PlacedLeaf, HasLeaves, CanPlace}
use Rattle.ist_core.proofs.AllEventLemmas.{between_once}
use Rattle.laws_histories.specs.ExampleShares.{finish_of, share_held, share_part_rows, share_placed}
use Rattle.laws_histories.proofs.EventTestLemmas.{known}
use Rattle.laws_histories.proofs.ShareExampleLemmas.{many, share_rebuild}
use Rattle.laws_histories.proofs.ShareRootExampleLemmas.{leaves_by, new_top}
use Rattle.laws_histories.proofs.ShareRowExampleLemmas.{share_held_enabled}
use Rattle.laws_histories.proofs.SharePartExampleLemmas.{with_part_rows, leaves_0, leaves_4, leaves_8, leaves_12, four_0, four_4, four_8, four_12}

-- the leaves of the target
held_leaves : (leaves : List PlacedLeaf)
    × HasLeaves (state many share_held).pieces (Some (InnerAt 4)) leaves
unfolding finish_of ref_of rows_within degree square_root root_up_to part_len part_lens ideal_words ideal_words_within
held_leaves = known (leaves_by 6 (state many share_held).pieces (Some (InnerAt 4))) refl

-- the leaves of the part
abbrev part_leaves : List PlacedLeaf
part_leaves = leaves_0 ++ (leaves_4 ++ (leaves_8 ++ leaves_12))

-- the row of the part
abbrev part_top : InnerRow
part_top = record {
  status = 0;
  count = 0;
  degree = 4;
  size = 16;
  keys = 5 ∷ 9 ∷ 13 ∷ [];
  slots = 17050 ∷ 17218 ∷ 17386 ∷ 17554 ∷ [];
}

-- the part is ideal
part_ideal : IsIdeal with_part_rows (InnerAt 2120) part_leaves 2085 (bases_of share_part_rows)
unfolding finish_of ref_of rows_within degree square_root root_up_to part_len part_lens ideal_words ideal_words_within
part_ideal = of_more part_top
    record {
      published = refl;
      two = omega arith;
      higher = omega arith;
      status = refl;
      count = refl;
      degree = refl;
      size = refl;
      keys = refl;
    }
    (one_part (InnerAt 2131) refl four_0 (one_part (InnerAt 2152) refl four_4
    (one_part (InnerAt 2173) refl four_8 (one_part (InnerAt 2194) refl four_12 no_part))))

-- it is the first of the target's leaves
part_is_first : slice_get (parts held_leaves.0) 0 ≡ Some part_leaves
unfolding held_leaves finish_of ref_of rows_within degree square_root root_up_to part_len part_lens ideal_words ideal_words_within
part_is_first = refl

-- the caller holds the rows
all_held : HoldsRows (state many share_held) 0 share_part_rows
unfolding finish_of ref_of rows_within degree square_root root_up_to part_len part_lens ideal_words ideal_words_within
all_held = grind arith

-- no base is twice in the list
once : Distinct (bases_of share_part_rows)
once = grind (arith, between_once)

-- so the part is placed
placed : CanPlace (state many share_held) 0 2071 0 16962 share_part_rows
unfolding finish_of ref_of rows_within degree square_root root_up_to part_len part_lens ideal_words ideal_words_within
placed = record {
  known = omega arith;
  row = share_rebuild 16682 1;
  published = refl;
  root = 2085;
  root_is = refl;
  root_row = new_top (replicate 16 7);
  root_published = refl;
  free = refl;
  leaves = held_leaves.0;
  reached = held_leaves.1;
  part = part_leaves;
  part_is = part_is_first;
  ref = InnerAt 2120;
  ref_is = refl;
  ideal = part_ideal;
  once = once;
  held = all_held;
}

-- the log is enabled
pub share_placed_enabled : EachEnabled many share_placed
share_placed_enabled = (share_held_enabled, placed)
