-- What a caller does while it builds, and puts in place what it has built.
use Rattle.std.specs.Prelude.{◌≡◌, ◌≢◌, ℕ, ◌≤◌, Some}
use Rattle.ist_core.specs.declared.ports.Full.{Full}
use Rattle.ist_core.specs.declared.states.InnerRow.{InnerRow}
use Rattle.ist_core.specs.declared.states.RebuildRow.{RebuildRow}
use Rattle.ist_core.specs.Arithmetic.{degree}
use Rattle.ist_core.specs.Pieces.{Inner, Rebuild}
use Rattle.ist_core.specs.Rebuilding.{IsStarted, IsFinishedWith}
use Rattle.ist_core.specs.References.{InnerAt, ref_of, unset_word}
use Rattle.ist_core.specs.Shapes.{share_from}
use Rattle.ist_core.specs.Slots.{SlotHolds}
use Rattle.ist_core.specs.Snapshots.{Snapshot}
use Rattle.ist_rule.specs.declared.view.View.{View}
use Rattle.ist_rule.specs.Learning.{now}
use Rattle.ist_rows.specs.Shortage.{RanShort}
use Rattle.ist_build.specs.Calls.{Builds, IsForBuild}
use Rattle.ist_build.specs.Laying.{LaidOn}

-- ---- what the caller does

-- from the first view to the second the caller has only made loads, made events of builds, and
-- stored words into rows that it reserved since
abbrev pub PutOn : View → View → Type 0
PutOn = LaidOn Builds

-- ---- rebuilds

-- the rebuild has this root
pub record HasRoot (t : Snapshot) (rebuild root : ℕ) : Type 0 where
  pub row : RebuildRow
  pub published : t.pieces rebuild ≡ Some (Rebuild row)
  pub root_is : row.root ≡ root
  pub set : root ≢ unset_word

-- ---- parts

-- the inner row at the base has `degree` slots
pub record IsRowOfDegree (t : Snapshot) (node degree : ℕ) : Type 0 where
  pub row : InnerRow
  pub published : t.pieces node ≡ Some (Inner row)
  pub degree_is : row.degree ≡ degree

-- the slot holds a word that isn't Unset
pub record IsSlotSet (t : Snapshot) (node i : ℕ) : Type 0 where
  pub word : ℕ
  pub holds : SlotHolds t node i word
  pub set : word ≢ unset_word

-- the rebuild is started, its target is finished with enough keys for a shared root, and this is
-- the root, with a slot for each part
pub record IsShared (t : Snapshot) (rebuild target root k : ℕ) : Type 0 where
  pub row : RebuildRow
  pub published : t.pieces rebuild ≡ Some (Rebuild row)
  pub target_is : row.target ≡ target
  pub started : IsStarted t rebuild
  pub finished : IsFinishedWith t target k
  pub shared : share_from ≤ k
  pub root_is : ref_of row.root ≡ Some (InnerAt root)
  pub node : IsRowOfDegree t root (degree k)

-- ---- refusals

-- too few words are left for a node over no more keys than the target of the rebuild has; until then
-- the caller put on
abbrev pub IsStopped : View → ℕ → ℕ → Full → View → Type 0
IsStopped v rebuild words full w =
    RanShort PutOn (IsForBuild (now v) rebuild) v words full w
