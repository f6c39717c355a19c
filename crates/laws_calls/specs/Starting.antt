-- The laws over lawful logs on how a rebuild begins and which slots hold it. `src/settling.rt` lists
-- them.
use Rattle.std.specs.Prelude.{List, Some, ℕ, ◌≡◌}
use Rattle.ist_core.specs.declared.pairs.Pair.{Pair}
use Rattle.ist_core.specs.declared.states.ChangeRow.{ChangeRow}
use Rattle.ist_core.specs.declared.states.RebuildRow.{RebuildRow}
use Rattle.ist_core.specs.Lawful.{Lawful, state_of}
use Rattle.ist_core.specs.Logs.{Log}
use Rattle.ist_core.specs.Pieces.{Change, Rebuild}
use Rattle.ist_core.specs.Rebuilding.{IsStarted}
use Rattle.ist_core.specs.References.{InnerAt, RebuildAt, ref_of}
use Rattle.ist_core.specs.Snapshots.{Snapshot}
use Rattle.ist_core.specs.Statuses.{start_kind}
use Rattle.laws_links.specs.Replacing.{ReadsAsRebuild}

-- the row at the base is the start of the rebuild with this row: it is for the rebuild's slot, and
-- replaces the target by the rebuild
pub record IsStartFor (t : Snapshot) (rebuild : ℕ) (row : RebuildRow) (base : ℕ) : Type 0 where
  pub change : ChangeRow
  pub published : t.pieces base ≡ Some (Change change)
  pub kind : change.kind ≡ start_kind
  pub node : change.node ≡ row.parent
  pub index : change.index ≡ row.index
  pub from : ref_of change.from ≡ Some (InnerAt row.target)
  pub to : ref_of change.to ≡ Some (RebuildAt rebuild)

-- each published rebuild has a start
abbrev pub RebuildsHaveStarts : Type 0
RebuildsHaveStarts =
    (pairs : List Pair) (words : ℕ) (log : Log) → Lawful pairs words log
    → (rebuild : ℕ) (row : RebuildRow)
    → (state_of pairs words log).pieces rebuild ≡ Some (Rebuild row)
    → (base : ℕ) × IsStartFor (state_of pairs words log) rebuild row base

-- each rebuild has only one start: two changes that put it into a slot are one
abbrev pub StartsAreOne : Type 0
StartsAreOne =
    (pairs : List Pair) (words : ℕ) (log : Log) → Lawful pairs words log
    → (rebuild base other : ℕ) (change also : ChangeRow)
    → (state_of pairs words log).pieces base ≡ Some (Change change)
    → (state_of pairs words log).pieces other ≡ Some (Change also)
    → ref_of change.to ≡ Some (RebuildAt rebuild) → ref_of also.to ≡ Some (RebuildAt rebuild)
    → base ≡ other

-- if a slot holds the word of a rebuild, or of a change that reads as it, the rebuild was started
abbrev pub SlotsTellStarts : Type 0
SlotsTellStarts =
    (pairs : List Pair) (words : ℕ) (log : Log) → Lawful pairs words log → (node i rebuild : ℕ)
    → ReadsAsRebuild (state_of pairs words log) node i rebuild
    → IsStarted (state_of pairs words log) rebuild
