-- The law over lawful logs on how far the draw word of a rebuild can grow. `src/rebuilds.rt` names it.
use Rattle.std.specs.Prelude.{List, Some, ℕ, ◌+◌, ◌≡◌, ◌≤◌}
use Rattle.ist_core.specs.declared.pairs.Pair.{Pair}
use Rattle.ist_core.specs.declared.states.RebuildRow.{RebuildRow}
use Rattle.ist_core.specs.Enabled.{caller_limit}
use Rattle.ist_core.specs.Lawful.{Lawful, state_of}
use Rattle.ist_core.specs.Logs.{Log}
use Rattle.ist_core.specs.Pieces.{Rebuild}
use Rattle.ist_core.specs.RowLayout.{place_limit}

-- a draw word is at most the number of places plus the number of callers, so adding 1 to it never
-- wraps
abbrev pub DrawsStayLow : Type 0
DrawsStayLow =
    (pairs : List Pair) (words : ℕ) (log : Log) → Lawful pairs words log
    → (rebuild : ℕ) (row : RebuildRow)
    → (state_of pairs words log).pieces rebuild ≡ Some (Rebuild row)
    → row.draw ≤ place_limit + caller_limit
