-- The way from a node up to the anchor, by the slots in which nodes hung.
use Rattle.std.specs.Prelude.{◌≡◌, ◌⊎◌, ◌↔◌, ◌<◌, ◌+◌, ℕ, Option, Some, None}
use Rattle.std.specs.Ordering.{nat_cmp}
use Rattle.std.specs.BTreeMap as tree
use Rattle.std.specs.BTreeMap.{BTreeMap}
use Rattle.ist_core.specs.declared.states.InnerRow.{InnerRow}
use Rattle.ist_core.specs.RowLayout.{anchor}
use Rattle.ist_core.specs.Pieces.{Inner}
use Rattle.ist_core.specs.Snapshots.{Snapshot}
use Rattle.ist_core.specs.Logs.{Log, Ever, state}
use Rattle.ist_core.specs.Slots.{IsChildFor}
use Rattle.ist_core.specs.Links.{WasOnChain}
use Rattle.check_events.specs.declared.pasts.Slot.{Slot}

-- the way up from the node reaches the anchor, and each slot on it is the slot of the child for the
-- key
pub data Climbs (slots : BTreeMap ℕ Slot) (t : Snapshot) (key : ℕ) : ℕ → Type 0 where
  at_top : Climbs slots t key anchor
  up : {child : ℕ} (slot : Slot) → tree.get nat_cmp slots child ≡ Some slot
      → IsChildFor t slot.node key slot.index → Climbs slots t key slot.node
      → Climbs slots t key child

-- the way up from the node passes the row, which may be the node itself
pub data ClimbsBy (slots : BTreeMap ℕ Slot) (row : ℕ) : ℕ → Type 0 where
  here : (slot : Slot) → tree.get nat_cmp slots row ≡ Some slot → ClimbsBy slots row row
  higher : {child : ℕ} (slot : Slot) → tree.get nat_cmp slots child ≡ Some slot
      → ClimbsBy slots row slot.node → ClimbsBy slots row child

-- the way up from the place passes the row exactly if the way up from the node does; without a
-- place, the way up from the node doesn't pass the row
abbrev pub LeadsUp : BTreeMap ℕ Slot → ℕ → ℕ → Option ℕ → Type 0
LeadsUp slots node row None = ¬ (ClimbsBy slots row node)
LeadsUp slots node row (Some next) = ClimbsBy slots row next ↔ ClimbsBy slots row node

-- the row is on the chain of the node, or is one of the fixed words
abbrev pub IsJump : Snapshot → Log → ℕ → ℕ → Type 0
IsJump first log node row = (row < anchor + 1) ⊎ WasOnChain first log node row

-- each inner row keeps its keys
abbrev pub KeysStay : Snapshot → Log → Type 0
KeysStay first log =
    (node : ℕ) (r : InnerRow) → Ever first (λ t. t.pieces node ≡ Some (Inner r)) log
    → (s : InnerRow) × ((state first log).pieces node ≡ Some (Inner s)) × (s.keys ≡ r.keys)
