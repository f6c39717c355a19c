-- The laws on trees that follow one another. `src/laws.rt` lists them.
use Rattle.std.specs.Prelude.{◌≡◌, ℕ, List, length, map}
use Rattle.ist_core.specs.declared.pairs.Pair.{Pair}
use Rattle.ist_core.specs.Map.{map_of}
use Rattle.ist_core.specs.Histories.{IsLegal}
use Rattle.ist_core.specs.Resting.{told_by_call}
use Rattle.laws_real_time.specs.Making.{calls_returned}
use Rattle.laws_real_time.specs.Joining.{LinearizesTo}
use Rattle.ist_tree.specs.Faces.{TreeFace, MakerFace}
use Rattle.ist_tree.specs.Closing.{ClosesWith}
use Rattle.ist_reopen.specs.Generations.{Generation, generation_of, IsGeneration, FollowOn, history, map_told, moments_over}
use Rattle.ist_reopen.specs.Interleaving.{IsMadeOf, told_over}
use Rattle.ist_reopen.specs.Reopening.{OpensAfter, BeginsAfter}

-- a tree that is opened over words that were closed with a maker begins with what the maker's passes
-- left
abbrev pub OpenedTreesFollow : Type 0
OpenedTreesFollow =
    (m : MakerFace) (closed : List ℕ) (words : ℕ) (tree : TreeFace) (maker : MakerFace)
    → length closed ≡ m.tree.words → ClosesWith m closed → OpensAfter closed words tree maker
    → BeginsAfter m words tree maker

-- a tree that was closed is a generation
abbrev pub ClosedTreesAreGenerations : Type 0
ClosedTreesAreGenerations =
    (m : MakerFace) (closed : List ℕ) (c : ClosesWith m closed)
    → IsGeneration (generation_of m closed c)

-- the calls on all trees form one legal history from the first pairs on
abbrev pub HistoriesAreOne : Type 0
HistoriesAreOne =
    (first last : List Pair) (gs : List Generation) → FollowOn first gs last
    → IsLegal (map_of first) (history gs)

-- and this history leads to the last pairs, with no pair lost or made between two trees
abbrev pub HistoriesLeadOn : Type 0
HistoriesLeadOn =
    (first last : List Pair) (gs : List Generation) → FollowOn first gs last
    → map_told (map_of first) (history gs) ≡ map_of last

-- the calls on all trees are linearizable, and lead to the last pairs: each call on one tree returned
-- before those on the next began
abbrev pub HistoriesAreLinearizable : Type 0
HistoriesAreLinearizable =
    (first last : List Pair) (gs : List Generation) → FollowOn first gs last
    → LinearizesTo (map_of first) (moments_over gs) (map_of last)

-- they are what the passes of each number were told, one tree after another
abbrev pub MomentsAreOfCalls : Type 0
MomentsAreOfCalls =
    (first last : List Pair) (gs : List Generation) → FollowOn first gs last → (number : ℕ)
    → map told_by_call (calls_returned number (moments_over gs)) ≡ told_over gs number

-- and it is made of what the passes of each number were told, one tree after another: each answered
-- call once, in the order of its number's calls, and no others
abbrev pub HistoriesAreMadeOfCalls : Type 0
HistoriesAreMadeOfCalls =
    (first last : List Pair) (gs : List Generation) → FollowOn first gs last
    → IsMadeOf (told_over gs) (history gs)
