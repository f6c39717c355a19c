-- A rebuild of 256 keys gets a shared root, and a part of it is drawn. Serves `examples`.
use Rattle.std.proofs.Common.{◌≡◌, ℕ, zero, suc, ◌≤◌, ◌⊎◌, List, [], ◌∷◌, ◌++◌, length, replicate, Option, Some, None, refl, inl, inr, arith}
use Rattle.ist_core.specs.declared.states.InnerRow.{InnerRow}
use Rattle.ist_core.specs.declared.events.Event.TheVariants.{Reserve, Draw}
use Rattle.ist_core.specs.WordTerms.{degree, square_root, root_up_to, part_len, part_lens, ideal_words, ideal_words_within, share_from, share_from_is, Ref, Empty, LeafAt, InnerAt, ref_of, Pieces, Piece, Leaf, Inner, with_inners, rows_within, logical, IsTop}
use Rattle.ist_core.specs.LogTerms.{Snapshot, state, Log, Happened, Draws, IsBuild, build_top, IsBuilding, IsMerge, IsFair, at_end, from_left, last_build, CanReserve, EachEnabled}
use Rattle.ist_core.specs.TreeTerms.{PlacedLeaf, HasLeaves, SlotsHaveLeaves, none_here, leaf_here, row_here, no_slot, one_slot, IsStarted, IsFinishedWith, CanRoot, root_top, CanDraw}
use Rattle.laws_histories.specs.ExampleShares.{top_keys, finish_of, share_finished, share_root_rows, share_rooted, share_drawn}
use Rattle.laws_histories.proofs.EventTestLemmas.{then, known}
use Rattle.laws_histories.proofs.ShareExampleLemmas.{many, share_start, share_rebuild, big_top, share_finished_enabled}

-- ---- leaves by a computation

-- a way to the leaves below each reference
abbrev pub FindsLeaves : Pieces → Type 0
FindsLeaves ps = (o : Option Ref) → Option ((leaves : List PlacedLeaf) × HasLeaves ps o leaves)

-- the leaf at the base
abbrev pub leaf_by : (ps : Pieces) (base : ℕ) (p : Option Piece) → ps base ≡ p
    → Option ((leaves : List PlacedLeaf) × HasLeaves ps (Some (LeafAt base)) leaves)
leaf_by ps base (Some (Leaf r)) e = Some (record { base = base; row = r } ∷ [], leaf_here r e)
leaf_by ps base _ e = None

-- the leaves below some slots
abbrev pub slots_by : (ps : Pieces) (find : FindsLeaves ps) (words : List ℕ)
    → Option ((leaves : List PlacedLeaf) × SlotsHaveLeaves ps words leaves)
slots_by ps find [] = Some ([], no_slot)
slots_by ps find (word ∷ words) =
    then (find (logical ps word)) (λ here.
    then (slots_by ps find words) (λ rest. Some (here.0 ++ rest.0, one_slot here.1 rest.1)))

-- the leaves below the inner row at the base
abbrev pub row_by : (ps : Pieces) (find : FindsLeaves ps) (base : ℕ) (p : Option Piece) → ps base ≡ p
    → Option ((leaves : List PlacedLeaf) × HasLeaves ps (Some (InnerAt base)) leaves)
row_by ps find base (Some (Inner r)) e =
    then (slots_by ps find r.slots) (λ found. Some (found.0, row_here r e found.1))
row_by ps find base _ e = None

-- the leaves below a reference, if `fuel` levels are enough to find them
abbrev pub leaves_by : (fuel : ℕ) (ps : Pieces) → FindsLeaves ps
leaves_by zero ps o = None
leaves_by (suc fuel) ps (Some Empty) = Some ([], none_here)
leaves_by (suc fuel) ps (Some (LeafAt base)) = leaf_by ps base (ps base) refl
leaves_by (suc fuel) ps (Some (InnerAt base)) = row_by ps (leaves_by fuel ps) base (ps base) refl
leaves_by (suc fuel) ps _ = None

-- ---- the root

-- 256 keys are enough for a shared root
pub many_are_shared : share_from ≤ 256
many_are_shared = let is = share_from_is in omega arith

-- a list that is merged from builds only
merge_left : (sizes : List ℕ) → IsMerge sizes sizes []
merge_left [] = at_end
merge_left (size ∷ sizes) = from_left size (merge_left sizes)

-- a beginning of a build is fair
pub build_fair : (t : Snapshot) (sizes rest : List ℕ) → IsBuilding t (sizes ++ rest)
    → IsFair t sizes
build_fair t sizes rest building = record {
  building = sizes;
  spare = [];
  merge = merge_left sizes;
  builds = last_build rest building;
  few = tt;
  one_each = tt;
}

-- the target is finished
target_finished : IsFinishedWith (state many share_finished) 4 256
unfolding finish_of ref_of rows_within degree square_root root_up_to part_len part_lens ideal_words ideal_words_within
target_finished = record { row = big_top 1027; published = refl; status = refl }

-- the rebuild is started
still_started : IsStarted (state many share_finished) 2071
unfolding finish_of ref_of rows_within degree square_root root_up_to part_len part_lens ideal_words ideal_words_within
still_started = record {
  base = 2076;
  change = share_start 1;
  published = refl;
  kind = refl;
  decision = refl;
  to = refl;
}

-- the new top row is a build
top_builds : IsBuild 256 (35 ∷ [])
unfolding degree square_root root_up_to
top_builds = build_top many_are_shared

-- so its row may be reserved
root_reserved : CanReserve (state many share_finished) 0 2085 35
unfolding finish_of ref_of rows_within degree square_root root_up_to part_len part_lens ideal_words ideal_words_within
root_reserved = record {
  known = omega arith;
  base_is = refl;
  room = omega arith;
  fair = build_fair _ (35 ∷ []) [] record {
    rebuild = 2071;
    row = share_rebuild 7 0;
    published = refl;
    started = still_started;
    k = 256;
    finished = target_finished;
    build = top_builds;
  };
}

-- the new top row is held
abbrev root_held : Log
root_held = Reserve 0 2085 35 ∷ share_finished

-- the rebuild is still started
held_started : IsStarted (state many root_held) 2071
unfolding finish_of ref_of rows_within degree square_root root_up_to part_len part_lens ideal_words ideal_words_within
held_started = record {
  base = 2076;
  change = share_start 1;
  published = refl;
  kind = refl;
  decision = refl;
  to = refl;
}

-- the leaves of the target
root_leaves : (leaves : List PlacedLeaf)
    × HasLeaves (state many root_held).pieces (Some (InnerAt 4)) leaves
unfolding finish_of ref_of rows_within degree square_root root_up_to part_len part_lens ideal_words ideal_words_within
root_leaves = known (leaves_by 6 (state many root_held).pieces (Some (InnerAt 4))) refl

-- the new top row
abbrev pub new_top : List ℕ → InnerRow
new_top slots =
    record { status = 0; count = 0; degree = 16; size = 256; keys = top_keys; slots = slots }

-- it is the top of an ideal subtree
is_top : IsTop (with_inners (state many root_held).pieces share_root_rows) 2085
    (new_top (replicate 16 7)) root_leaves.0 4
unfolding root_leaves finish_of ref_of rows_within degree square_root root_up_to part_len part_lens ideal_words ideal_words_within
is_top = let many_leaves : length root_leaves.0 ≡ 256 = refl in record {
  published = refl;
  two = omega arith;
  higher = omega arith;
  status = refl;
  count = refl;
  degree = refl;
  size = refl;
  keys = refl;
}

-- all slots of the root are Unset
unset_slots : replicate {A = ℕ} 16 7 ≡ replicate (degree (length root_leaves.0)) 7
unfolding root_leaves finish_of ref_of rows_within degree square_root root_up_to part_len part_lens ideal_words ideal_words_within
unset_slots = refl

-- so it may become the root
rooted : CanRoot (state many root_held) 0 2071 16682 share_root_rows
unfolding finish_of ref_of rows_within degree square_root root_up_to part_len part_lens ideal_words ideal_words_within
rooted = record {
  known = omega arith;
  row = share_rebuild 7 0;
  published = refl;
  started = held_started;
  rootless = refl;
  k = 256;
  finished = record { row = big_top 1027; published = refl; status = refl };
  leaves = root_leaves.0;
  reached = root_leaves.1;
  root = root_top 2085 (new_top (replicate 16 7)) many_are_shared refl is_top unset_slots refl;
  once = ((λ k. k), tt);
  held = (inl refl, tt);
}

-- ---- the draw

-- of two cases the first can't be
only_later : (part : ℕ) (log : Log) → (Happened (Draws 0 2071 part) log → ⊥)
    → ⊥ ⊎ Happened (Draws 0 2071 part) log → ⊥
only_later part log before (inl k) = k
only_later part log before (inr k) = before k

-- an event that is no draw adds no draw
abbrev none_later : (log : Log) → Option ((part : ℕ) → Happened (Draws 0 2071 part) log → ⊥)
    → Option ((part : ℕ) → ⊥ ⊎ Happened (Draws 0 2071 part) log → ⊥)
none_later log before = then before (λ none. Some (λ part h. only_later part log (none part) h))

-- the log has no draw, or nothing is said
abbrev no_draw : (log : Log) → Option ((part : ℕ) → Happened (Draws 0 2071 part) log → ⊥)
no_draw [] = Some (λ part h. h)
no_draw (Draw c o p ∷ log) = None
no_draw (_ ∷ log) = none_later log (no_draw log)

-- no part was drawn before
none_drawn : (part : ℕ) → Happened (Draws 0 2071 part) share_rooted → ⊥
unfolding finish_of ref_of rows_within degree square_root root_up_to part_len part_lens ideal_words ideal_words_within
none_drawn = known (no_draw share_rooted) refl

-- so the first part is drawn
drawn : CanDraw (state many share_rooted) share_rooted 0 2071 0
unfolding finish_of ref_of rows_within degree square_root root_up_to part_len part_lens ideal_words ideal_words_within
drawn = record {
  known = omega arith;
  row = share_rebuild 16682 0;
  published = refl;
  rooted = λ e. omega arith;
  k = 256;
  finished = record { row = big_top 1027; published = refl; status = refl };
  shared = many_are_shared;
  part_is = refl;
  not_past = λ earlier h. absurd (none_drawn earlier h);
}

-- the log is enabled until then
pub share_drawn_enabled : EachEnabled many share_drawn
share_drawn_enabled = (((share_finished_enabled, root_reserved), rooted), drawn)
