-- What comes of a change that is decided: a rebuild is started, or a caller is refused on a node.
use Rattle.std.specs.Prelude.{◌≡◌, ℕ, Some}
use Rattle.check_events.specs.Passing.{TargetFinishedWith}
use Rattle.ist_core.specs.declared.states.ChangeRow.{ChangeRow}
use Rattle.ist_core.specs.References.{RebuildAt, ref_of}
use Rattle.ist_core.specs.Statuses.{start_kind}
use Rattle.ist_core.specs.Pieces.{Change}
use Rattle.ist_core.specs.Snapshots.{Snapshot}

-- the change, if it is decided yes, starts the rebuild
pub record StartsRebuild (t : Snapshot) (base rebuild : ℕ) : Type 0 where
  pub change : ChangeRow
  pub published : t.pieces base ≡ Some (Change change)
  pub kind : change.kind ≡ start_kind
  pub to : ref_of change.to ≡ Some (RebuildAt rebuild)

-- the change, if it is decided yes, starts a rebuild whose target is finished with k keys
pub record StartsFinished (t : Snapshot) (base k : ℕ) : Type 0 where
  pub rebuild : ℕ
  pub starts : StartsRebuild t base rebuild
  pub finished : TargetFinishedWith t rebuild k

-- the change, if it is decided no, is a change of the caller on the node
pub record Refuses (t : Snapshot) (base caller node : ℕ) : Type 0 where
  pub change : ChangeRow
  pub published : t.pieces base ≡ Some (Change change)
  pub owned : change.owner ≡ caller
  pub on : change.node ≡ node
