-- Helping a rebuild: how the caller goes on, and what becomes of the rebuild.
use Rattle.std.specs.Prelude.{◌≡◌, ℕ, Some}
use Rattle.ist_core.specs.declared.ports.Full.{Full}
use Rattle.ist_core.specs.declared.states.RebuildRow.{RebuildRow}
use Rattle.ist_core.specs.Pieces.{Rebuild}
use Rattle.ist_core.specs.Rebuilding.{IsFinishedWith, IsReplaced}
use Rattle.ist_core.specs.RowLayout.{change_words}
use Rattle.ist_core.specs.Slots.{IsOpen}
use Rattle.ist_core.specs.Snapshots.{Snapshot}
use Rattle.ist_rule.specs.declared.view.View.{View}
use Rattle.ist_rule.specs.Learning.{now}
use Rattle.ist_rows.specs.declared.callers.Caller.{Caller}
use Rattle.ist_rows.specs.Going.{StaysReady}
use Rattle.ist_rebuild.specs.Going.{KeepsFresh, ServesRebuild}
use Rattle.ist_rebuild.specs.Lacking.{LacksNow}
use Rattle.ist_rows.specs.Shortage.{RanShort}
use Rattle.ist_build.specs.Laying.{IsForNode}
use Rattle.ist_rule.specs.Going.{WentOn}

-- the caller has only made steps of help and is ready, and holds the leaf and the pair row that it
-- held
pub record HasHelped (old new : Caller) : Type 0 where
  pub on : StaysReady ServesRebuild old new
  pub fresh : KeepsFresh old new

-- the rebuild is still in its slot, in a parent that isn't open
pub record IsLeftToParent (t : Snapshot) (rebuild : ℕ) : Type 0 where
  pub row : RebuildRow
  pub published : t.pieces rebuild ≡ Some (Rebuild row)
  pub closed : ¬ (IsOpen t row.parent)
  pub stands : ¬ (IsReplaced t rebuild)

-- this many words were asked for: for a change, if such a row is lacking, or for a node over at least
-- two keys and at most as many as the finished target has
pub data IsAskedFor (Lacks : ℕ → Type 0) (t : Snapshot) (rebuild asked : ℕ) : Type 0 where
  for_change : asked ≡ change_words → Lacks asked → IsAskedFor Lacks t rebuild asked
  for_node : (row : RebuildRow) (k : ℕ) → t.pieces rebuild ≡ Some (Rebuild row)
      → IsFinishedWith t row.target k → IsForNode k asked → IsAskedFor Lacks t rebuild asked

-- too few words were left for a change, which the caller lacks, or for what it built
abbrev pub IsHelpRefused : View → ℕ → ℕ → Full → View → Type 0
IsHelpRefused v rebuild words full w =
    RanShort (WentOn ServesRebuild) (IsAskedFor (LacksNow w) (now w) rebuild) v words full w
