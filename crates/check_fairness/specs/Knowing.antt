-- What the building lists that a checker keeps say of a state.
use Rattle.std.specs.Prelude.{◌≡◌, ◌↔◌, ◌≤◌, ℕ, List, [], map, length}
use Rattle.ist_core.specs.Snapshots.{Snapshot}
use Rattle.check_fairness.specs.declared.lists.BuildingLists.{BuildingLists}
use Rattle.check_fairness.specs.Answers.{Holds}
use Rattle.check_fairness.specs.Searching.{AreBuilding, AreSpare, all_spare}
use Rattle.check_fairness.specs.Targets.{HasFinishedTarget}
use Rattle.check_fairness.specs.Builds.{HasShapes}
use Rattle.check_fairness.specs.Keeping.{KnowsReadings, AreKept}

-- the set has the numbers of keys with which targets of started rebuilds are finished, the lists
-- are the building lists, the shapes of the kept numbers are among them, and what is kept of the
-- sizes that callers hold is right
pub record KnowsLists (building : BuildingLists) (t : Snapshot) : Type 0 where
  pub keys : (k : ℕ) → Holds building.counts k ↔ HasFinishedTarget t k
  pub lists : AreBuilding t (map (λ v. v.items) building.lists.items)
  pub shapes : HasShapes building.shapes (map (λ v. v.items) building.lists.items)
  pub kept : KnowsReadings building.kept (map (λ v. v.items) building.lists.items)

-- there are no building lists
pub record HasNone (building : BuildingLists) : Type 0 where
  pub counts : building.counts.keys ≡ []
  pub lists : building.lists.items ≡ []
  pub shapes : building.shapes.keys ≡ []
  pub kept : building.kept.entries ≡ []

-- readings of these sizes are kept for the caller, unless there is only one size, or all are sizes
-- of spare rows
abbrev pub KeepsSizes : BuildingLists → ℕ → List ℕ → Type 0
KeepsSizes building caller sizes =
    2 ≤ length sizes → ¬ (AreSpare all_spare sizes)
    → AreKept building.kept (map (λ v. v.items) building.lists.items) caller sizes
