-- What a pass reads of a range of keys in their order.
use Rattle.std.specs.Prelude.{◌≡◌, ℕ, ◌+◌, ◌≤◌, List, ◌++◌}
use Rattle.ist_core.specs.declared.pairs.Pair.{Pair}
use Rattle.ist_core.specs.RowLayout.{anchor}
use Rattle.ist_core.specs.Logs.{Log, GoesOn}
use Rattle.ist_find.specs.Sweeps.{Swept}
use Rattle.ist_tree.specs.Faces.{PassFace}
use Rattle.ist_tree.specs.RealTime.{StepsIn}

-- since a step of this call the pass read the keys from the first to the last upwards, slot after slot,
-- and appended their pairs. What a later slot held isn't older than what an earlier one held. It began
-- one walk and made few loads: one, and those that the sweep says
pub record HasSweptOver (p q : PassFace) (first last : ℕ) (old new : List Pair) : Type 0 where
  pub began : Log
  pub step : StepsIn p q began
  pub once : q.searches ≡ p.searches + 1
  pub found : List Pair
  pub are : new ≡ old ++ found
  pub at : Log
  pub until : GoesOn at q.seen
  pub loads : ℕ
  pub few : q.loaded ≤ p.loaded + 1 + loads
  pub swept : Swept p.tree.start p.tree.words first anchor began at (last + 1) 0 loads found
