-- How far a listing has come.
use Rattle.std.specs.Prelude.{◌≡◌, ℕ, List, ◌++◌, reverse}
use Rattle.ist_core.specs.declared.pairs.Pair.{Pair}
use Rattle.ist_core.specs.Map.{pairs_between}
use Rattle.ist_rest.specs.declared.slots.SlotLeft.{SlotLeft}
use Rattle.ist_rest.specs.RestingWords.{HoldPairs}
use Rattle.ist_rest.specs.Steps.{GiveBetween}

-- what was found, followed by what the slots still to visit give, is what the words hold of the
-- interval
pub record HasListed (words : List ℕ) (first last : ℕ) (left : List SlotLeft) (found : List Pair)
    : Type 0 where
  pub pairs : List Pair
  pub holds : HoldPairs words pairs
  pub rest : List Pair
  pub gives : GiveBetween words first last (reverse left) rest
  pub so_far : pairs_between first last pairs ≡ found ++ rest
