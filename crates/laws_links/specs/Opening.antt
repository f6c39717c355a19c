-- The law over lawful logs on a table whose rebuilds are done. `src/rebuilds.rt` names it.
use Rattle.std.specs.Prelude.{List, Some, ℕ, ◌≡◌, ◌⊎◌}
use Rattle.ist_core.specs.declared.pairs.Pair.{Pair}
use Rattle.ist_core.specs.declared.states.InnerRow.{InnerRow}
use Rattle.ist_core.specs.declared.states.RebuildRow.{RebuildRow}
use Rattle.ist_core.specs.Lawful.{Lawful, state_of}
use Rattle.ist_core.specs.Links.{Linked}
use Rattle.ist_core.specs.Logs.{Log}
use Rattle.ist_core.specs.Pieces.{Inner, Rebuild}
use Rattle.ist_core.specs.Rebuilding.{IsReplaced, IsStarted}
use Rattle.ist_core.specs.Slots.{IsOpen}
use Rattle.ist_core.specs.Snapshots.{Snapshot}
use Rattle.ist_core.specs.Statuses.{open_word}

-- each started rebuild was replaced, or hangs in a node that isn't open
abbrev pub RebuildsAreDone : Snapshot → Type 0
RebuildsAreDone t =
    (rebuild : ℕ) (row : RebuildRow) → t.pieces rebuild ≡ Some (Rebuild row) → IsStarted t rebuild
    → IsReplaced t rebuild ⊎ ¬ (IsOpen t row.parent)

-- if rebuilds are done, no linked row is marked or finished. It doesn't matter whether each change
-- was resolved
abbrev pub RowsAreOpenAtRest : Type 0
RowsAreOpenAtRest =
    (pairs : List Pair) (words : ℕ) (log : Log) → Lawful pairs words log
    → RebuildsAreDone (state_of pairs words log) → (node : ℕ) (row : InnerRow)
    → Linked (state_of pairs words log) node
    → (state_of pairs words log).pieces node ≡ Some (Inner row) → row.status ≡ open_word
