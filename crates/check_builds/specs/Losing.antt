-- What a Lose requires of the rows that are given up.
use Rattle.std.specs.Prelude.{◌≡◌, ◌<◌, ℕ, List, Some}
use Rattle.ist_core.specs.declared.states.InnerRow.{InnerRow}
use Rattle.ist_core.specs.Pieces.{Inner}
use Rattle.ist_core.specs.Snapshots.{Snapshot}
use Rattle.ist_core.specs.Logs.{Log}
use Rattle.ist_core.specs.Fairness.{IsBuilding}
use Rattle.ist_core.specs.Building.{IsBeaten}

-- an inner row with a base above this one is published
pub record HasRowAbove (t : Snapshot) (base : ℕ) : Type 0 where
  pub node : ℕ
  pub row : InnerRow
  pub published : t.pieces node ≡ Some (Inner row)
  pub above : base < node

-- the sizes are a building list, and after the caller's last build another caller put one of these
-- sizes in place
pub record IsTooLate (t : Snapshot) (log : Log) (caller : ℕ) (sizes : List ℕ) : Type 0 where
  pub building : IsBuilding t sizes
  pub beaten : IsBeaten caller sizes log
