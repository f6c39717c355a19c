-- What is left of a closed tree.
use Rattle.std.specs.Prelude.{◌≡◌, ℕ, List, length}
use Rattle.ist_core.specs.declared.pairs.Pair.{Pair}
use Rattle.ist_core.specs.Replies.{Answered}
use Rattle.ist_core.specs.Resting.{StandsFor}
use Rattle.ist_core.specs.Spending.{spent}
use Rattle.ist_rest.specs.RestingWords.{HoldPairs}
use Rattle.ist_handles.specs.declared.closed_trees.LeftPairs.{LeftPairs}

-- these are the pairs that the closed words hold, how many words there are, and how many were spent by
-- the log of the tree, for whichever pairs and calls the words represent
pub record IsLeft (words : List ℕ) (left : LeftPairs) : Type 0 where
  pub hold : HoldPairs words left.pairs.items
  pub words_are : left.words ≡ length words
  pub used_are : (pairs : List Pair) (told : List (List Answered)) (s : StandsFor words pairs told)
      → left.used ≡ spent pairs s.log
