-- A tree that is opened, and why one isn't.
use Rattle.std.specs.Prelude.{◌≡◌, ℕ, ◌+◌, ◌<◌, ◌≤◌, false, List, [], length}
use Rattle.ist_core.specs.declared.pairs.Pair.{Pair}
use Rattle.ist_core.specs.RowLayout.{first_row}
use Rattle.ist_core.specs.Shapes.{ideal_words}
use Rattle.ist_core.specs.Snapshots.{Snapshot}
use Rattle.ist_core.specs.StartLayout.{start}
use Rattle.ist_core.specs.declared.events.Who.TheVariants.{Maker}
use Rattle.ist_rule.specs.Faces.{TokenFace}
use Rattle.ist_rule.specs.Seating.{HasImage}
use Rattle.ist_tree.specs.declared.faults.OpenFault.{OpenFault}
use Rattle.ist_tree.specs.declared.faults.OpenFault.TheVariants.{Small, Memory}
use Rattle.ist_tree.specs.Faces.{TreeFace, MakerFace}
use Rattle.ist_tree.specs.Insides.{maker_face}

-- how many words the tree of the pairs takes: the fixed ones, and the ideal tree
abbrev pub words_for : List Pair → ℕ
words_for pairs = first_row + ideal_words (length pairs)

-- whichever token the maker steps by: between any two steps at which the maker is like this, the words
-- of the table are the image of this state
abbrev pub HasWords : MakerFace → Snapshot → Type 0
HasWords maker t =
    (s : TokenFace) → s.view.who ≡ Maker → maker_face s maker.refused ≡ maker → HasImage s.view t

-- the tree is a new one of the pairs, and they fit in this many words. Its maker has made no pass
-- and seen no event and no call. Until it makes a pass, the words are the image of the pairs: the fixed
-- words, the rows of their ideal tree, and then zeros
pub record IsNewTree (words : ℕ) (pairs : List Pair) (tree : TreeFace) (maker : MakerFace)
    : Type 0 where
  pub room : words_for pairs ≤ words
  pub start_is : tree.start ≡ pairs
  pub words_is : tree.words ≡ words
  pub same_tree : maker.tree ≡ tree
  pub made : maker.made ≡ 0
  pub seen : maker.seen ≡ []
  pub unheard : maker.moments ≡ []
  pub stamp : maker.stamp ≡ 0
  pub taken : maker.taken ≡ []
  pub unrefused : maker.refused ≡ false
  pub image : HasWords maker (start pairs words)

-- the fault is `Small`, with both numbers, if there are too few words, and `Memory` only if there
-- are enough
abbrev pub IsFaultOf : ℕ → List Pair → OpenFault → Type 0
IsFaultOf words pairs (Small needed given) =
    (needed ≡ words_for pairs) × (given ≡ words) × (words < needed)
IsFaultOf words pairs Memory = words_for pairs ≤ words
