-- What a slot is read as, and which leaves were found below one.
use Rattle.std.specs.Prelude.{◌≡◌, ◌++◌, ℕ, Bool, true, false, List, Option, Some, reverse}
use Rattle.ist_core.specs.References.{Ref, Empty, LeafAt, InnerAt}
use Rattle.ist_core.specs.declared.states.InnerRow.{InnerRow}
use Rattle.ist_core.specs.Pieces.{Pieces, Inner}
use Rattle.ist_core.specs.Leaves.{PlacedLeaf, HasLeaves, SlotsHaveLeaves}
use Rattle.check_builds.specs.declared.readings.SlotReading.{SlotReading}
use Rattle.check_builds.specs.declared.readings.SlotReading.TheVariants.{Nothing, OneLeaf, OneRow, Other}

-- the reading is right for the reference; `Other` is right for references without leaves
abbrev pub IsReadingOf : SlotReading → Option Ref → Type 0
IsReadingOf Nothing ref = ref ≡ Some Empty
IsReadingOf (OneLeaf base) ref = ref ≡ Some (LeafAt base)
IsReadingOf (OneRow base) ref = ref ≡ Some (InnerAt base)
IsReadingOf Other ref = (ps : Pieces) (leaves : List PlacedLeaf) → ¬ (HasLeaves ps ref leaves)

-- leaves with P were added after the others; or there are none with P
abbrev pub Gathers : (List PlacedLeaf → Type 0) → List PlacedLeaf → Bool → List PlacedLeaf → Type 0
Gathers P old true new = (leaves : List PlacedLeaf) × (new ≡ old ++ leaves) × P leaves
Gathers P old false new = (leaves : List PlacedLeaf) → ¬ (P leaves)

-- the lists with P are the leaves that were found, followed by leaves of slots with these words
pub record LeavesLeft (ps : Pieces) (P : List PlacedLeaf → Type 0) (found : List PlacedLeaf)
    (words : List ℕ) : Type 0 where
  pub all : (rest : List PlacedLeaf) → SlotsHaveLeaves ps words rest → P (found ++ rest)
  pub no_other : (leaves : List PlacedLeaf) → P leaves
      → (rest : List PlacedLeaf) × (leaves ≡ found ++ rest) × SlotsHaveLeaves ps words rest

-- some of the leaves of slots with some words were added after the others, and slots with other
-- words are left; or these slots have no leaves
abbrev pub GathersOn : Pieces → List ℕ → List PlacedLeaf → Bool → List ℕ → List PlacedLeaf → Type 0
GathersOn ps words old true left new =
    (leaves : List PlacedLeaf) × (new ≡ old ++ leaves) × LeavesLeft ps (SlotsHaveLeaves ps words) leaves left
GathersOn ps words old false left new = (leaves : List PlacedLeaf) → ¬ (SlotsHaveLeaves ps words leaves)

-- the slots of the inner row at the base were appended to the words, the first one last; or there
-- is no such row
abbrev pub PutsSlots : Pieces → ℕ → List ℕ → Bool → List ℕ → Type 0
PutsSlots ps base old true new = (row : InnerRow) × (ps base ≡ Some (Inner row)) × (new ≡ old ++ reverse row.slots)
PutsSlots ps base old false new = (row : InnerRow) → ¬ (ps base ≡ Some (Inner row))
