-- What the steps of reading a slot promise each other.
use Rattle.std.specs.Prelude.{◌≡◌, ℕ, ◌<◌, List, Some}
use Rattle.ist_core.specs.RowLayout.{place_limit}
use Rattle.ist_core.specs.References.{Ref, Empty, LeafAt, InnerAt}
use Rattle.ist_core.specs.Elements.{Each}
use Rattle.ist_rest.specs.WordRows.{past_change_in, past_rebuild_in, change_on, rebuild_on, IsWithinUsed}
use Rattle.ist_rest.specs.Walks.{HasDecision}

-- what a slot in good shape reads as: nothing, a leaf or an inner row
abbrev pub IsTreeRef : Ref → Type 0
IsTreeRef Empty = Unit {0}
IsTreeRef (LeafAt base) = Unit {0}
IsTreeRef (InnerAt base) = Unit {0}
IsTreeRef _ = ⊥

-- the base of the reference, if it has one, is a place of a table
abbrev pub IsInUse : List ℕ → Ref → Type 0
IsInUse words (InnerAt base) = base < place_limit
IsInUse words _ = Unit {0}

-- a reference reads as this after changes; the words of the change on the way are in use, and its
-- decision is known
pub record LeavesSide (words : List ℕ) (found side : Ref) : Type 0 where
  pub within : Each (IsWithinUsed words) (change_on (Some found))
  pub decision : HasDecision words (Some found)
  pub is : past_change_in words (Some found) ≡ Some side

-- a reference that is no change reads as this; the words of the rebuild on the way are in use
pub record LeadsPast (words : List ℕ) (found ref : Ref) : Type 0 where
  pub through : Each (IsWithinUsed words) (rebuild_on (Some found))
  pub is : past_rebuild_in words (Some found) ≡ Some ref
  pub plain : IsTreeRef ref
