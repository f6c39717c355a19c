-- What a caller is told of the pairs that are left of a closed tree.
use Rattle.std.specs.Prelude.{ℕ, List, drop, length}
use Rattle.ist_core.specs.declared.pairs.Pair.{Pair}
use Rattle.ist_handles.specs.declared.held.Held.{Held}
use Rattle.ist_handles.specs.declared.held.Held.TheVariants as of
use Rattle.ist_handles.specs.declared.closed_trees.LeftPairs.{LeftPairs}
use Rattle.ist_handles.specs.declared.results.Stats.{Stats}
use Rattle.ist_handles.specs.Pairs.{written}
use Rattle.ist_handles.specs.Results.{done, misuse}
use Rattle.ist_c.specs.Kinds.{AreNoPairs}

-- by a handle of the pairs that are left, the room has those from this number on, as many as there is
-- room for, and the count is that of all; only by a handle of something else nothing is written, which is
-- misuse
pub data ListsLeft : Held → ℕ → ℕ → List Pair → List Pair → ℕ → ℕ → Type 0 where
  lists_left : (left : LeftPairs) (from : ℕ) (room : List Pair) (before : ℕ)
      → ListsLeft (of.Left left) from done room (written (drop from left.pairs.items) room) before
      (length left.pairs.items)
  none_left : (held : Held) (from : ℕ) (room : List Pair) (count : ℕ)
      → AreNoPairs held → ListsLeft held from misuse room room count count

-- how many pairs are left, how many words the closed tree had, and how many of these were used
abbrev pub stats_of : LeftPairs → Stats
stats_of left = record {
  keys = length left.pairs.items;
  words = left.words;
  used = left.used;
}

-- by a handle of the pairs that are left these numbers are written; only by a handle of something else
-- nothing is, which is misuse
pub data CountsLeft : Held → ℕ → Stats → Stats → Type 0 where
  counts_left : (left : LeftPairs) (before : Stats)
      → CountsLeft (of.Left left) done before (stats_of left)
  counts_none : (held : Held) (stats : Stats) → AreNoPairs held → CountsLeft held misuse stats stats
