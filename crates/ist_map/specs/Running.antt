-- Workers that run on trees that follow one another.
use Rattle.std.specs.Prelude.{◌≡◌, ◌≢◌, ℕ, ◌≤◌, List, [], ◌∷◌, ◌++◌, map, All, Any, Option, IsSome, IfSome, slice_index_or}
use Rattle.ist_core.specs.declared.pairs.Pair.{Pair}
use Rattle.ist_core.specs.declared.ports.Full.{Full}
use Rattle.ist_core.specs.Map.{map_of}
use Rattle.ist_core.specs.Histories.{IsLegal}
use Rattle.ist_core.specs.RowLayout.{place_limit}
use Rattle.ist_core.specs.Replies.{Answered}
use Rattle.ist_core.specs.Resting.{told_by_call}
use Rattle.laws_real_time.specs.Moments.{Moments}
use Rattle.laws_real_time.specs.Making.{calls_returned}
use Rattle.laws_real_time.specs.Joining.{LinearizesTo}
use Rattle.ist_rest.specs.RestingWords.{HoldPairs}
use Rattle.ist_tree.specs.Faces.{TreeFace, MakerFace}
use Rattle.ist_reopen.specs.declared.faults.ReopenFault.{ReopenFault}
use Rattle.ist_reopen.specs.Generations.{Generation, IsGeneration, FollowOn, map_told, calls_of, pairs_left}
use Rattle.ist_map.specs.Growing.{words_for_tree, HaveDoubled, asked_after, last_words, IsGrowFault}
use Rattle.ist_map.specs.Refusing.{WasRefusedOn}
use Rattle.ist_reopen.specs.Interleaving.{IsMadeOf, told_over}
use Rattle.ist_reopen.specs.Reopening.{OpensAfter}

-- the workers ran on trees that follow one another: the first begins with exactly the pairs that the
-- words `first` hold, each other one with those that the tree before it left, and `last` holds what
-- the last one left. `asked` words were asked for the first tree, and for each other one what follows
-- from the words of the one before; `left` are those of the last one, or `asked` if there is none. Worker
-- number w made exactly the calls of the pass with number w on each tree, and was told their replies, in
-- order
pub record HasRunOn (first last : List ℕ) (asked left : ℕ) (before after : List (List Answered))
    : Type 0 where
  pub began : List Pair
  pub began_held : HoldPairs first began
  pub ended : List Pair
  pub ended_held : HoldPairs last ended
  pub trees : List Generation
  pub follow : FollowOn began trees ended
  pub sizes : HaveDoubled asked trees
  pub left_is : left ≡ last_words asked trees
  pub told : (number : ℕ) → slice_index_or after number []
      ≡ slice_index_or before number [] ++ told_over trees number

-- on the last of these trees each worker was refused what `refused` says of it
abbrev pub WereRefused : List Generation → List (Option Full) → Type 0
WereRefused [] refused = Unit {0}
WereRefused (g ∷ []) refused = All (λ r. IfSome r (WasRefusedOn g)) refused
WereRefused (g ∷ h ∷ more) refused = WereRefused (h ∷ more) refused

-- the workers ran so, and no tree follows these, for this fault: as many words were asked for as after
-- them. On the last tree a worker was refused, if there is a last one; `refused` says of each worker
-- what it was refused there
pub record HasStopped (first last : List ℕ) (asked left : ℕ) (before after : List (List Answered))
    (refused : List (Option Full)) (fault : ReopenFault) : Type 0 where
  pub ran : HasRunOn first last asked left before after
  pub one_refused : ran.trees ≢ [] → Any IsSome refused
  pub refusals : WereRefused ran.trees refused
  pub cause : IsGrowFault last (asked_after asked ran.trees) fault

-- the calls of all workers form one legal history, from the pairs that the first words hold to those
-- that the last hold. It is made of what each worker was told in this run: each answered call once,
-- in the worker's order, and no others. By their moments these calls are linearizable
pub record IsOneHistory (first last : List ℕ) (before after : List (List Answered)) : Type 0 where
  pub began : List Pair
  pub began_held : HoldPairs first began
  pub ended : List Pair
  pub ended_held : HoldPairs last ended
  pub history : List Answered
  pub legal : IsLegal (map_of began) history
  pub leads : map_told (map_of began) history ≡ map_of ended
  pub told : ℕ → List Answered
  pub made : IsMadeOf told history
  pub moments : Moments
  pub linear : LinearizesTo (map_of began) moments (map_of ended)
  pub returned : (number : ℕ) → map told_by_call (calls_returned number moments) ≡ told number
  pub told_are : (number : ℕ) → slice_index_or after number []
      ≡ slice_index_or before number [] ++ told number

-- ---- while a run goes on

-- a tree is opened over the pairs that the closed words hold, for which this many words are asked
pub record OpensEnough (closed : List ℕ) (asked : ℕ) (tree : TreeFace) (maker : MakerFace)
    : Type 0 where
  pub words : ℕ
  pub words_is : words ≡ words_for_tree asked tree.start
  pub within : words ≤ place_limit
  pub opens : OpensAfter closed words tree maker

-- the workers ran on one more tree, on which each was refused what `refused` says of it
pub record HasRunOnOne (first last : List ℕ) (asked left : ℕ) (before after : List (List Answered))
    (refused : List (Option Full)) : Type 0 where
  pub tree : Generation
  pub is : IsGeneration tree
  pub began_held : HoldPairs first tree.start
  pub ended_held : HoldPairs last (pairs_left tree)
  pub size : tree.words ≡ words_for_tree asked tree.start
  pub left_is : left ≡ tree.words
  pub told : (number : ℕ) → slice_index_or after number []
      ≡ slice_index_or before number [] ++ map told_by_call (calls_of tree number)
  pub refusals : All (λ r. IfSome r (WasRefusedOn tree)) refused

-- the workers ran on trees after which `next` words are asked for, and on the last of them a worker
-- was refused, if there is a last one
pub record IsUnderway (first last : List ℕ) (asked left next : ℕ) (before after : List (List Answered))
    (refused : List (Option Full)) : Type 0 where
  pub ran : HasRunOn first last asked left before after
  pub next_is : asked_after asked ran.trees ≡ next
  pub one_refused : ran.trees ≢ [] → Any IsSome refused
  pub refusals : WereRefused ran.trees refused
