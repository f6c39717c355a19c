-- The laws over lawful logs that are about the tree. `src/laws.rt` lists them.
use Rattle.std.specs.Prelude.{◌≡◌, ℕ, ◌<◌, List, map, Some}
use Rattle.std.specs.List.Sorted.{IsStrictlyIncreasing}
use Rattle.ist_core.specs.declared.pairs.Pair.{Pair}
use Rattle.ist_core.specs.declared.states.LeafRow.{LeafRow}
use Rattle.ist_core.specs.declared.states.InnerRow.{InnerRow}
use Rattle.ist_core.specs.References.{LeafAt, InnerAt, ref_of}
use Rattle.ist_core.specs.Pieces.{Leaf, Inner}
use Rattle.ist_core.specs.Leaves.{PlacedLeaf, HasLeaves, HasContents}
use Rattle.ist_core.specs.Rebuilding.{IsFinishedWith}
use Rattle.ist_core.specs.Logs.{Log, GoesOn}
use Rattle.ist_core.specs.Slots.{SlotHolds, IsChildFor, past_rebuild, logical}
use Rattle.ist_core.specs.Naming.{NamesRow, HasDegree}
use Rattle.ist_core.specs.Links.{IsChild, Linked, Leads}
use Rattle.ist_core.specs.Marking.{IsFrozen}
use Rattle.ist_core.specs.Lawful.{Lawful, state_of}
use Rattle.ist_core.specs.Freezing.{IsClosedOver}

-- ---- words

-- the word in a slot names a published row of its kind, or nothing
abbrev pub SlotsNameRows : Type 0
SlotsNameRows =
    (pairs : List Pair) (words : ℕ) (log : Log) → Lawful pairs words log → (node i word : ℕ)
    → SlotHolds (state_of pairs words log) node i word → NamesRow (state_of pairs words log) node i word

-- each published inner row has `degree` slots and one key less
abbrev pub RowsHaveTheirDegree : Type 0
RowsHaveTheirDegree =
    (pairs : List Pair) (words : ℕ) (log : Log) → Lawful pairs words log → (node : ℕ) (row : InnerRow)
    → (state_of pairs words log).pieces node ≡ Some (Inner row) → HasDegree row

-- ---- order

-- an inner child's base is above its parent's
abbrev pub ChildrenLieAbove : Type 0
ChildrenLieAbove =
    (pairs : List Pair) (words : ℕ) (log : Log) → Lawful pairs words log → (node i child : ℕ)
    → IsChild (state_of pairs words log) node i child → node < child

-- the keys of each published inner row are strictly increasing
abbrev pub KeysRise : Type 0
KeysRise =
    (pairs : List Pair) (words : ℕ) (log : Log) → Lawful pairs words log → (node : ℕ) (row : InnerRow)
    → (state_of pairs words log).pieces node ≡ Some (Inner row) → IsStrictlyIncreasing row.keys

-- if a slot of a linked node reads as a leaf, the leaf's key leads to it: the child for the key
-- leads from the anchor to the node, and from the node to this slot
abbrev pub LeavesLieByKey : Type 0
LeavesLieByKey =
    (pairs : List Pair) (words : ℕ) (log : Log) → Lawful pairs words log → (node i word leaf : ℕ) (row : LeafRow)
    → Linked (state_of pairs words log) node → SlotHolds (state_of pairs words log) node i word
    → logical (state_of pairs words log).pieces word ≡ Some (LeafAt leaf)
    → (state_of pairs words log).pieces leaf ≡ Some (Leaf row)
    → Leads (state_of pairs words log) row.key node × IsChildFor (state_of pairs words log) node row.key i

-- the leaves below a slot, of a linked node or not, have strictly increasing keys
abbrev pub LeavesRise : Type 0
LeavesRise =
    (pairs : List Pair) (words : ℕ) (log : Log) → Lawful pairs words log → (node i word : ℕ) (leaves : List PlacedLeaf)
    → SlotHolds (state_of pairs words log) node i word
    → HasLeaves (state_of pairs words log).pieces (logical (state_of pairs words log).pieces word) leaves
    → IsStrictlyIncreasing (map (λ leaf. leaf.row.key) leaves)

-- the keys of the table's contents are strictly increasing
abbrev pub ContentsRise : Type 0
ContentsRise =
    (pairs : List Pair) (words : ℕ) (log : Log) → Lawful pairs words log → (contents : List Pair)
    → HasContents (state_of pairs words log) contents → IsStrictlyIncreasing (map (λ pair. pair.key) contents)

-- ---- finished rows

-- the leaves below a finished row stay the same in every longer log
abbrev pub FinishedLeavesStay : Type 0
FinishedLeavesStay =
    (pairs : List Pair) (words : ℕ) (earlier log : Log) → Lawful pairs words log → GoesOn earlier log
    → (node k : ℕ) (leaves : List PlacedLeaf) → IsFinishedWith (state_of pairs words earlier) node k
    → HasLeaves (state_of pairs words earlier).pieces (Some (InnerAt node)) leaves
    → HasLeaves (state_of pairs words log).pieces (Some (InnerAt node)) leaves

-- ---- one parent

-- an inner row is only ever the logical child of one slot: it was in the same slot after any prefix
-- of the log
abbrev pub ParentsAreOne : Type 0
ParentsAreOne =
    (pairs : List Pair) (words : ℕ) (earlier log : Log) → Lawful pairs words log
    → GoesOn earlier log
    → (node i other j child : ℕ) → IsChild (state_of pairs words earlier) node i child
    → IsChild (state_of pairs words log) other j child → (node ≡ other) × (i ≡ j)

-- ---- frozen slots

-- a frozen slot reads as the word that it was passed with, and if that is a rebuild, as its target
abbrev pub FrozenSlotsRead : Type 0
FrozenSlotsRead =
    (pairs : List Pair) (words : ℕ) (log : Log) → Lawful pairs words log → (node i passed word : ℕ)
    → IsFrozen log node i passed → SlotHolds (state_of pairs words log) node i word
    → logical (state_of pairs words log).pieces word ≡ past_rebuild
    (state_of pairs words log).pieces (ref_of passed)

-- the node of a frozen slot isn't open, and the slot still holds its word, or a change in vain that
-- would take it out
abbrev pub FrozenSlotsKeep : Type 0
FrozenSlotsKeep =
    (pairs : List Pair) (words : ℕ) (log : Log) → Lawful pairs words log → (node i passed : ℕ)
    → IsFrozen log node i passed → IsClosedOver (state_of pairs words log) log node i passed

-- all passes of a slot have the same word
abbrev pub PassesAgree : Type 0
PassesAgree =
    (pairs : List Pair) (words : ℕ) (log : Log) → Lawful pairs words log → (node i word other : ℕ)
    → IsFrozen log node i word → IsFrozen log node i other → word ≡ other
