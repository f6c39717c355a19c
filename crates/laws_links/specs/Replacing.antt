-- The laws over lawful logs on rebuilds and on the contents. `src/rebuilds.rt` lists them.
use Rattle.std.specs.Prelude.{List, Some, length, true, ℕ, ◌↔◌, ◌∷◌, ◌≡◌, ◌≢◌, ◌≤◌, ◌⊎◌}
use Rattle.ist_core.specs.declared.events.Event.{Event}
use Rattle.ist_core.specs.declared.events.Event.TheVariants.{Decide}
use Rattle.ist_core.specs.declared.pairs.Pair.{Pair}
use Rattle.ist_core.specs.declared.states.ChangeRow.{ChangeRow}
use Rattle.ist_core.specs.declared.states.RebuildRow.{RebuildRow}
use Rattle.ist_core.specs.Ideals.{IsIdeal}
use Rattle.ist_core.specs.Lawful.{Lawful, state_of}
use Rattle.ist_core.specs.Leaves.{HasContents, HasLeaves, PlacedLeaf}
use Rattle.ist_core.specs.Links.{Linked}
use Rattle.ist_core.specs.Logs.{Log}
use Rattle.ist_core.specs.Pieces.{Change, Rebuild}
use Rattle.ist_core.specs.Rebuilding.{IsFinishedWith, IsReplaced, IsStarted, IsUpdate}
use Rattle.ist_core.specs.References.{InnerAt, RebuildAt, Ref, Unset, ref_of, unset_word}
use Rattle.ist_core.specs.RowLayout.{place_limit}
use Rattle.ist_core.specs.Slots.{SlotHolds, logical, past_change}
use Rattle.ist_core.specs.Snapshots.{Snapshot}
use Rattle.laws_links.specs.Linking.{IsFinished}

-- ---- rebuilds in their slots

-- slot i of the node holds the rebuild, or a change that reads as it
pub record ReadsAsRebuild (t : Snapshot) (node i rebuild : ℕ) : Type 0 where
  pub word : ℕ
  pub holds : SlotHolds t node i word
  pub reads : past_change t.pieces (ref_of word) ≡ Some (RebuildAt rebuild)

-- a started rebuild was replaced, or is in its slot, or a change in its slot reads as it
abbrev pub StartedRebuildsStand : Type 0
StartedRebuildsStand =
    (pairs : List Pair) (words : ℕ) (log : Log) → Lawful pairs words log
    → (rebuild : ℕ) (row : RebuildRow)
    → (state_of pairs words log).pieces rebuild ≡ Some (Rebuild row)
    → IsStarted (state_of pairs words log) rebuild
    → IsReplaced (state_of pairs words log) rebuild
    ⊎ ReadsAsRebuild (state_of pairs words log) row.parent row.index rebuild

-- a rebuild that was replaced never is in its slot again, nor does its slot read as it
abbrev pub ReplacedRebuildsAreGone : Type 0
ReplacedRebuildsAreGone =
    (pairs : List Pair) (words : ℕ) (log : Log) → Lawful pairs words log
    → (rebuild : ℕ) (row : RebuildRow)
    → (state_of pairs words log).pieces rebuild ≡ Some (Rebuild row)
    → IsReplaced (state_of pairs words log) rebuild
    → ¬ (ReadsAsRebuild (state_of pairs words log) row.parent row.index rebuild)

-- the target of a replaced rebuild isn't linked
abbrev pub ReplacedTargetsAreOut : Type 0
ReplacedTargetsAreOut =
    (pairs : List Pair) (words : ℕ) (log : Log) → Lawful pairs words log
    → (rebuild : ℕ) (row : RebuildRow)
    → (state_of pairs words log).pieces rebuild ≡ Some (Rebuild row)
    → IsReplaced (state_of pairs words log) rebuild
    → ¬ (Linked (state_of pairs words log) row.target)

-- the target of a rebuild with a root is finished
abbrev pub RootsComeLate : Type 0
RootsComeLate =
    (pairs : List Pair) (words : ℕ) (log : Log) → Lawful pairs words log
    → (rebuild : ℕ) (row : RebuildRow)
    → (state_of pairs words log).pieces rebuild ≡ Some (Rebuild row) → row.root ≢ unset_word
    → IsFinished (state_of pairs words log) row.target

-- ---- roots

-- the change replaces the rebuild's target by the rebuild's root, and the root is the ideal subtree
-- over exactly the leaves below the target, with inner rows above it
pub record PutsIdealRoot (t : Snapshot) (change : ChangeRow) (row : RebuildRow) : Type 0 where
  pub root : change.to ≡ row.root
  pub ref : Ref
  pub root_is : ref_of row.root ≡ Some ref
  pub leaves : List PlacedLeaf
  pub reached : HasLeaves t.pieces (Some (InnerAt row.target)) leaves
  pub rows : List ℕ
  pub ideal : IsIdeal t.pieces ref leaves row.target rows

-- when a finish of a rebuild is decided yes, it puts in an ideal root over the target's leaves;
-- this holds in the states before and after the event
abbrev pub RootsAreIdeal : Type 0
RootsAreIdeal =
    (pairs : List Pair) (words : ℕ) (log : Log) (caller base : ℕ)
    → Lawful pairs words (Decide caller base true ∷ log)
    → (change : ChangeRow) (rebuild : ℕ) (row : RebuildRow)
    → (state_of pairs words log).pieces base ≡ Some (Change change)
    → ref_of change.from ≡ Some (RebuildAt rebuild)
    → (state_of pairs words log).pieces rebuild ≡ Some (Rebuild row)
    → PutsIdealRoot (state_of pairs words log) change row
    × PutsIdealRoot (state_of pairs words (Decide caller base true ∷ log)) change row

-- ---- contents

-- contents exist after each lawful log
abbrev pub ContentsExist : Type 0
ContentsExist =
    (pairs : List Pair) (words : ℕ) (log : Log) → Lawful pairs words log
    → (contents : List Pair) × HasContents (state_of pairs words log) contents

-- each slot of a linked node is set
abbrev pub LinkedSlotsAreSet : Type 0
LinkedSlotsAreSet =
    (pairs : List Pair) (words : ℕ) (log : Log) → Lawful pairs words log → (node i word : ℕ)
    → Linked (state_of pairs words log) node → SlotHolds (state_of pairs words log) node i word
    → logical (state_of pairs words log).pieces word ≢ Some Unset

-- each event but a Decide with yes of a put or remove
abbrev pub LeavesContents : Snapshot → Event → Type 0
LeavesContents t (Decide caller base true) =
    (change : ChangeRow) → t.pieces base ≡ Some (Change change) → ¬ (IsUpdate change.kind)
LeavesContents t _ = Unit {0}

-- such an event leaves the contents: the same pairs are there before it and after it
abbrev pub UpdatesAloneChange : Type 0
UpdatesAloneChange =
    (pairs : List Pair) (words : ℕ) (log : Log) (event : Event) → Lawful pairs words (event ∷ log)
    → LeavesContents (state_of pairs words log) event → (contents : List Pair)
    → HasContents (state_of pairs words log) contents
    ↔ HasContents (state_of pairs words (event ∷ log)) contents

-- ---- finished rows

-- a finished row has leaves below it
abbrev pub FinishedRowsHaveLeaves : Type 0
FinishedRowsHaveLeaves =
    (pairs : List Pair) (words : ℕ) (log : Log) → Lawful pairs words log → (node k : ℕ)
    → IsFinishedWith (state_of pairs words log) node k
    → (leaves : List PlacedLeaf)
    × HasLeaves (state_of pairs words log).pieces (Some (InnerAt node)) leaves

-- a finished row's number is the number of leaves below it
abbrev pub NumbersCountLeaves : Type 0
NumbersCountLeaves =
    (pairs : List Pair) (words : ℕ) (log : Log) → Lawful pairs words log
    → (node k : ℕ) (leaves : List PlacedLeaf)
    → IsFinishedWith (state_of pairs words log) node k
    → HasLeaves (state_of pairs words log).pieces (Some (InnerAt node)) leaves → length leaves ≡ k

-- the number of a finished row is at most the number of places, so it fits into a status
abbrev pub NumbersAreLow : Type 0
NumbersAreLow =
    (pairs : List Pair) (words : ℕ) (log : Log) → Lawful pairs words log → (node k : ℕ)
    → IsFinishedWith (state_of pairs words log) node k → k ≤ place_limit
