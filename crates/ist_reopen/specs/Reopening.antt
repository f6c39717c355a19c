-- A tree that is opened over the pairs of a closed one, and why none is.
use Rattle.std.specs.Prelude.{◌≡◌, ℕ, ◌<◌, ◌≤◌, List, length}
use Rattle.ist_core.specs.declared.pairs.Pair.{Pair}
use Rattle.ist_core.specs.Map.{pairs_of}
use Rattle.ist_core.specs.Replies.{Answered}
use Rattle.ist_core.specs.Resting.{StandsFor}
use Rattle.ist_core.specs.RowLayout.{place_limit}
use Rattle.laws_histories.specs.Telling.{map_now}
use Rattle.ist_rest.specs.RestingWords.{HoldPairs}
use Rattle.ist_tree.specs.declared.faults.OpenFault.{OpenFault}
use Rattle.ist_tree.specs.declared.faults.OpenFault.TheVariants as opening
use Rattle.ist_tree.specs.Faces.{TreeFace, MakerFace}
use Rattle.ist_tree.specs.Opening.{IsNewTree, words_for}
use Rattle.ist_tree.specs.Closing.{ClosesWith}
use Rattle.ist_reopen.specs.declared.faults.ReopenFault.{ReopenFault}
use Rattle.ist_reopen.specs.declared.faults.ReopenFault.TheVariants.{Beyond, Small, Memory}
use Rattle.ist_reopen.specs.Generations.{generation_of, pairs_left}

-- the tree is a new one of the pairs that the closed words hold. Whatever pairs and calls these
-- words represent, they are the pairs of the map after the changes
pub record OpensAfter (closed : List ℕ) (words : ℕ) (tree : TreeFace) (maker : MakerFace)
    : Type 0 where
  pub new : IsNewTree words tree.start tree maker
  pub holds : HoldPairs closed tree.start
  pub of_map : (pairs : List Pair) (told : List (List Answered)) (s : StandsFor closed pairs told)
      → tree.start ≡ pairs_of (map_now pairs (length closed) s.log)

-- the tree begins with exactly the pairs that an earlier one left, which was closed with this
-- maker: the pairs of the map after all calls of its passes, from the pairs that it began with
pub record BeginsAfter (m : MakerFace) (words : ℕ) (tree : TreeFace) (maker : MakerFace)
    : Type 0 where
  pub closed : List ℕ
  pub size : length closed ≡ m.tree.words
  pub closes : ClosesWith m closed
  pub holds : HoldPairs closed tree.start
  pub new : IsNewTree words tree.start tree maker
  pub left : tree.start ≡ pairs_left (generation_of m closed closes)

-- the same fault when a closed tree is to be followed
abbrev pub as_reopen : OpenFault → ReopenFault
as_reopen (opening.Small needed words) = Small needed words
as_reopen opening.Memory = Memory

-- the fault is `Beyond` if more words were asked for than a tree may have, `Small` if fewer than
-- the tree of the pairs takes, and else `Memory`
abbrev pub IsReopenFaultOf : List ℕ → ℕ → ReopenFault → Type 0
IsReopenFaultOf closed words (Beyond given) = (given ≡ words) × (place_limit < words)
IsReopenFaultOf closed words (Small needed given) =
    (pairs : List Pair) × HoldPairs closed pairs × (needed ≡ words_for pairs) × (given ≡ words)
    × (words < needed)
IsReopenFaultOf closed words Memory = words ≤ place_limit
