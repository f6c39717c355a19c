-- Marking a subtree: when a caller may, which rows are of it, and what it does to its log.
use Rattle.std.specs.Prelude.{◌≡◌, ℕ, Some}
use Rattle.ist_core.specs.declared.events.Event.{Event}
use Rattle.ist_core.specs.declared.events.Event.TheVariants.{Okay, Decide, Resolve, Mark, Pass, Finish}
use Rattle.ist_core.specs.declared.states.ChangeRow.{ChangeRow}
use Rattle.ist_core.specs.Logs.{Log}
use Rattle.ist_core.specs.Marking.{HasTarget, IsCalled, IsFrozen}
use Rattle.ist_core.specs.Pieces.{Change}
use Rattle.ist_core.specs.References.{InnerAt, RebuildAt, ref_of}
use Rattle.ist_core.specs.Snapshots.{Snapshot}
use Rattle.ist_rule.specs.declared.view.View.{View}
use Rattle.ist_core.specs.declared.events.Who.TheVariants.{Caller}
use Rattle.ist_rule.specs.Learning.{now}

-- a caller may mark a node if its log has a cause: the node is the target of a started rebuild, or
-- hangs in a slot that was passed
pub record MayMark (v : View) (node : ℕ) : Type 0 where
  pub number : ℕ
  pub mine : v.who ≡ Caller number
  pub called : IsCalled (now v) v.log node

-- ---- the rows of a subtree

-- the passed word leads to the inner row: it names the row, or a rebuild of it
pub data LeadsTo (t : Snapshot) (word child : ℕ) : Type 0 where
  to_row : ref_of word ≡ Some (InnerAt child) → LeadsTo t word child
  to_target : (rebuild : ℕ) → ref_of word ≡ Some (RebuildAt rebuild) → HasTarget t rebuild child
      → LeadsTo t word child

-- the row is the node, or hangs below it: a slot of such a row was passed, with a word that leads
-- to the row. A passed slot reads as this word from then on
pub data LiesUnder (t : Snapshot) (log : Log) (node : ℕ) : ℕ → Type 0 where
  the_node : LiesUnder t log node node
  one_lower : {above row : ℕ} (i word : ℕ) → LiesUnder t log node above → IsFrozen log above i word
      → LeadsTo t word row → LiesUnder t log node row

-- the change is on a slot of a row of the subtree
pub record IsOnSubtree (v : View) (node base : ℕ) : Type 0 where
  pub change : ChangeRow
  pub published : (now v).pieces base ≡ Some (Change change)
  pub under : LiesUnder (now v) v.log node change.node

-- the event is a step of marking the subtree: a Mark, a Pass or a Finish of a row of it, or a step
-- of help for a change on a slot of one
abbrev pub Marks : View → ℕ → Event → Type 0
Marks v node (Okay caller base) = IsOnSubtree v node base
Marks v node (Decide caller base said) = IsOnSubtree v node base
Marks v node (Resolve caller base) = IsOnSubtree v node base
Marks v node (Mark caller row) = LiesUnder (now v) v.log node row
Marks v node (Pass caller row i word) = LiesUnder (now v) v.log node row
Marks v node (Finish caller row keys) = LiesUnder (now v) v.log node row
Marks v node _ = ⊥
