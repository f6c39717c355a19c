-- What an event gives a cause to mark.
use Rattle.std.specs.Prelude.{◌≡◌, ℕ, Some}
use Rattle.ist_core.specs.References.{InnerAt, RebuildAt, ref_of}
use Rattle.ist_core.specs.Snapshots.{Snapshot}
use Rattle.ist_core.specs.Marking.{HasTarget}
use Rattle.check_state.specs.Remembered.{StartsRebuild}

-- the change, if it is decided yes, starts a rebuild of the node
pub record StartCalls (t : Snapshot) (base node : ℕ) : Type 0 where
  pub rebuild : ℕ
  pub starts : StartsRebuild t base rebuild
  pub of : HasTarget t rebuild node

-- the word names the node, or a rebuild of it
pub data WordCalls (t : Snapshot) (word node : ℕ) : Type 0 where
  names_row : ref_of word ≡ Some (InnerAt node) → WordCalls t word node
  names_rebuild : (rebuild : ℕ) → ref_of word ≡ Some (RebuildAt rebuild) → HasTarget t rebuild node
      → WordCalls t word node
