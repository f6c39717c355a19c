-- What an Install requires of its change's row: whatever the kind of the change, and of a put or a
-- remove.
use Rattle.std.specs.Prelude.{◌≡◌, ◌⊎◌, ℕ, List}
use Rattle.ist_core.specs.declared.states.ChangeRow.{ChangeRow}
use Rattle.ist_core.specs.declared.lists.Row.{Row}
use Rattle.ist_core.specs.Statuses.{undecided}
use Rattle.ist_core.specs.Logs.{Log, state}
use Rattle.ist_core.specs.Snapshots.{Snapshot}
use Rattle.ist_core.specs.Slots.{SlotHolds}
use Rattle.ist_core.specs.Links.{WasLinked}
use Rattle.ist_core.specs.Installing.{IsUnrefused, PutsLeaf, PutsPair, Removes}

-- the change is the caller's, undecided, and its slot holds `from`; its node is linked or was, and
-- no change of the caller on it was decided no
pub record MayStand (first : Snapshot) (log : Log) (caller : ℕ) (change : ChangeRow) : Type 0 where
  pub owned : change.owner ≡ caller
  pub unset : change.decision ≡ undecided
  pub in_slot : SlotHolds (state first log) change.node change.index change.from
  pub linked : WasLinked first log change.node
  pub unrefused : IsUnrefused (state first log) caller change.node

-- the change is a put of a leaf or of a pair row, or a remove, and meets its condition
abbrev pub FitsByKey : Snapshot → Log → ChangeRow → List Row → Type 0
FitsByKey first log change fresh =
    PutsLeaf first log change fresh ⊎ (PutsPair first log change fresh ⊎ Removes first log change fresh)
