-- What a walk knows that began at the first view: the node is open, or the table came further since.
use Rattle.std.specs.Prelude.{◌≡◌, ◌≢◌, ◌⊎◌, ℕ, ◌+◌, ◌≤◌}
use Rattle.ist_core.specs.Logs.{GoesOn}
use Rattle.ist_core.specs.References.{unset_word}
use Rattle.ist_core.specs.Slots.{IsOpen, SlotHolds}
use Rattle.ist_core.specs.Snapshots.{Snapshot}
use Rattle.ist_core.specs.declared.states.ChangeRow.{ChangeRow}
use Rattle.ist_rule.specs.declared.view.View.{View}
use Rattle.ist_rule.specs.Learning.{now}
use Rattle.ist_rule.specs.Rule.{IsSound}
use Rattle.laws_stability.specs.Progress.{progress}
use Rattle.laws_coming.specs.Further.{CameFurther}

-- the second view is of the same table, and its log goes on from the first view's
pub record IsAfter (v w : View) : Type 0 where
  pub later : GoesOn v.log w.log
  pub start_is : w.start ≡ v.start
  pub words_is : w.words ≡ v.words

-- a walk that began at the first view has come to an open node, unless the table came further since
pub record IsFreshNode (first v : View) (node : ℕ) : Type 0 where
  pub following : IsAfter first v
  pub is : IsOpen (now v) node ⊎ CameFurther first v

-- such a walk has found the word in this slot of the node
pub record HasAimed (first v : View) (node i word : ℕ) : Type 0 where
  pub at : View
  pub sound : IsSound at
  pub fresh : IsFreshNode first at node
  pub holds : SlotHolds (now at) node i word
  pub set : word ≢ unset_word
  pub following : IsAfter at v

-- the slot of the change holds another word than it expects
pub record HoldsElse (t : Snapshot) (change : ChangeRow) : Type 0 where
  pub word : ℕ
  pub holds : SlotHolds t change.node change.index word
  pub differs : word ≢ change.from

-- between the two views at most one walk began, plus one for each step of progress
abbrev pub HasWalkedFew : View → View → Type 0
HasWalkedFew v w = w.searches + progress v.log ≤ v.searches + 1 + progress w.log
