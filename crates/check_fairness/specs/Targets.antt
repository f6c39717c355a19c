-- The targets of started rebuilds, and the numbers of keys with which they are finished.
use Rattle.std.specs.Prelude.{◌↔◌, ◌⊎◌, ℕ}
use Rattle.std.specs.BTreeSet.{BTreeSet}
use Rattle.ist_core.specs.Snapshots.{Snapshot}
use Rattle.ist_core.specs.Rebuilding.{IsStarted, IsFinishedWith}
use Rattle.ist_core.specs.Marking.{HasTarget}
use Rattle.check_fairness.specs.Answers.{Holds}

-- the node is the target of a started rebuild
pub record IsTargeted (t : Snapshot) (node : ℕ) : Type 0 where
  pub rebuild : ℕ
  pub of : HasTarget t rebuild node
  pub started : IsStarted t rebuild

-- the set holds exactly these targets
abbrev pub KnowsTargets : BTreeSet ℕ → Snapshot → Type 0
KnowsTargets targets t = (node : ℕ) → Holds targets node ↔ IsTargeted t node

-- one of these targets is finished with k keys
pub record HasFinishedTarget (t : Snapshot) (k : ℕ) : Type 0 where
  pub node : ℕ
  pub targeted : IsTargeted t node
  pub finished : IsFinishedWith t node k

-- in the second state targets are finished with the same numbers of keys as in the first, and with
-- those that have P
abbrev pub GainsKeys : Snapshot → Snapshot → (ℕ → Type 0) → Type 0
GainsKeys t u P = (k : ℕ) → HasFinishedTarget u k ↔ (HasFinishedTarget t k ⊎ P k)
