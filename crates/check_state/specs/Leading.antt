-- Which keys lead to a slot of a node, and where the way to a row in it jumps to.
use Rattle.std.specs.Prelude.{◌≡◌, ◌↔◌, ◌⊎◌, ◌≤◌, ◌<◌, ◌^◌, ℕ, List}
use Rattle.std.specs.BTreeMap.{BTreeMap}
use Rattle.std.specs.List.Sorted.{IsStrictlyIncreasing}
use Rattle.ist_core.specs.Arithmetic.{child_count}
use Rattle.ist_core.specs.RowLayout.{anchor}
use Rattle.ist_core.specs.Snapshots.{Snapshot}
use Rattle.ist_core.specs.Logs.{Log}
use Rattle.ist_core.specs.Links.{WasOnChain}
use Rattle.check_events.specs.declared.pasts.Slot.{Slot}
use Rattle.check_events.specs.declared.pasts.RowWay.{RowWay}
use Rattle.check_events.specs.Remembering.{KnowsSlots, IsWay}
use Rattle.check_state.specs.Hanging.{HasSlot}

-- if the keys are strictly increasing, the keys from low to high are those whose child is child
-- `index`
abbrev pub IsSpanOf : List ℕ → ℕ → ℕ → ℕ → Type 0
IsSpanOf keys index low high =
    IsStrictlyIncreasing keys → (key : ℕ) → key < 2 ^ 64
    → (index ≡ child_count keys key) ↔ ((low ≤ key) × (key ≤ high))

-- this is the way to each row that hangs in the slot of the node
abbrev pub IsWayBy : Snapshot → Log → ℕ → ℕ → RowWay → Type 0
IsWayBy first log node index way =
    (slots : BTreeMap ℕ Slot) (row : ℕ) → KnowsSlots slots first log → HasSlot slots node index row
    → IsWay first log row way

-- the place is on the way from each row that hangs in a slot of the node, or is the anchor
abbrev pub JumpsFrom : Snapshot → Log → ℕ → ℕ → Type 0
JumpsFrom first log node jump =
    (slots : BTreeMap ℕ Slot) (index row : ℕ) → KnowsSlots slots first log
    → HasSlot slots node index row
    → (jump ≡ anchor) ⊎ WasOnChain first log row jump
