-- What became of a node, a change and a rebuild so far.
use Rattle.std.specs.Prelude.{◌≡◌, ℕ, ◌≤◌, ◌⊎◌, ◌≢◌, Some}
use Rattle.ist_core.specs.declared.states.InnerRow.{InnerRow}
use Rattle.ist_core.specs.declared.states.ChangeRow.{ChangeRow}
use Rattle.ist_core.specs.Arithmetic.{limit}
use Rattle.ist_core.specs.References.{InnerAt, RebuildAt, ref_of, unset_word}
use Rattle.ist_core.specs.Statuses.{finished_word, decided_yes, put_kind, remove_kind, start_kind, finish_kind}
use Rattle.ist_core.specs.Pieces.{Inner, Change}
use Rattle.ist_core.specs.Snapshots.{Snapshot}
use Rattle.ist_core.specs.Slots.{SlotHolds}

-- a change of this kind is a put or a remove
abbrev pub IsUpdate : ℕ → Type 0
IsUpdate kind = (kind ≡ put_kind) ⊎ (kind ≡ remove_kind)

-- the row was changed so often that it needs a rebuild
abbrev pub IsDue : InnerRow → Type 0
IsDue row = limit row.size ≤ row.count

-- the node is finished with k keys
pub record IsFinishedWith (t : Snapshot) (node k : ℕ) : Type 0 where
  pub row : InnerRow
  pub published : t.pieces node ≡ Some (Inner row)
  pub status : row.status ≡ finished_word k

-- the rebuild is started: the change that puts it into its slot was decided yes
pub record IsStarted (t : Snapshot) (rebuild : ℕ) : Type 0 where
  pub base : ℕ
  pub change : ChangeRow
  pub published : t.pieces base ≡ Some (Change change)
  pub kind : change.kind ≡ start_kind
  pub decision : change.decision ≡ decided_yes
  pub to : ref_of change.to ≡ Some (RebuildAt rebuild)

-- the rebuild is replaced: the change that puts its root in its slot was decided yes
pub record IsReplaced (t : Snapshot) (rebuild : ℕ) : Type 0 where
  pub base : ℕ
  pub change : ChangeRow
  pub published : t.pieces base ≡ Some (Change change)
  pub kind : change.kind ≡ finish_kind
  pub decision : change.decision ≡ decided_yes
  pub from : ref_of change.from ≡ Some (RebuildAt rebuild)

-- the root is built: its word is set, and no slot of its row is Unset
pub record IsBuilt (t : Snapshot) (root : ℕ) : Type 0 where
  pub set : root ≢ unset_word
  pub whole : (base i word : ℕ) → ref_of root ≡ Some (InnerAt base) → SlotHolds t base i word
      → word ≢ unset_word
