-- Which nodes are reached from the anchor, and on which path.
use Rattle.std.specs.Prelude.{◌≡◌, ℕ, List, [], ◌∷◌, ◌++◌, Some}
use Rattle.ist_core.specs.RowLayout.{anchor}
use Rattle.ist_core.specs.References.{InnerAt}
use Rattle.ist_core.specs.Elements.{Among}
use Rattle.ist_core.specs.Snapshots.{Snapshot}
use Rattle.ist_core.specs.Logs.{Log, Ever}
use Rattle.ist_core.specs.Slots.{SlotHolds, IsChildFor, logical}

-- the inner row is the logical child in slot i of the node
pub record IsChild (t : Snapshot) (node i child : ℕ) : Type 0 where
  pub word : ℕ
  pub holds : SlotHolds t node i word
  pub reads : logical t.pieces word ≡ Some (InnerAt child)

-- the node is linked: it is reached from the anchor through logical slots
pub data Linked (t : Snapshot) : ℕ → Type 0 where
  at_anchor : Linked t anchor
  below : {node child : ℕ} (i : ℕ) → Linked t node → IsChild t node i child → Linked t child

-- these are the inner rows from the anchor down to the node: without the anchor, and with the node
-- last
pub data Chain (t : Snapshot) : ℕ → List ℕ → Type 0 where
  no_row : Chain t anchor []
  one_row : {node child : ℕ} {rows : List ℕ} (i : ℕ) → Chain t node rows → IsChild t node i child
      → Chain t child (rows ++ child ∷ [])

-- the node is reached from the anchor by the child for the key at each step
pub data Leads (t : Snapshot) (key : ℕ) : ℕ → Type 0 where
  from_anchor : Leads t key anchor
  down : {node child : ℕ} (i : ℕ) → Leads t key node → IsChildFor t node key i
      → IsChild t node i child
      → Leads t key child

-- ---- over a log

-- the node is linked or was linked
abbrev pub WasLinked : Snapshot → Log → ℕ → Type 0
WasLinked first log node = Ever first (λ t. Linked t node) log

-- the row was on the chain of the node at a moment when the node was linked
abbrev pub WasOnChain : Snapshot → Log → ℕ → ℕ → Type 0
WasOnChain first log node row = Ever first (λ t. (rows : List ℕ) × Chain t node rows × Among row rows) log

-- at some moment the node was linked and reached by the child for the key at each step. One such
-- moment is enough: a row is only ever in one slot, and its keys don't change
abbrev pub WasLedTo : Snapshot → Log → ℕ → ℕ → Type 0
WasLedTo first log key node = Ever first (λ t. Leads t key node) log
