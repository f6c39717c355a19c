-- The law over lawful logs on the numbers of an inner row. `src/rows.rt` names it.
use Rattle.std.specs.Prelude.{List, Some, ℕ, ◌≡◌, ◌≤◌}
use Rattle.ist_core.specs.declared.pairs.Pair.{Pair}
use Rattle.ist_core.specs.declared.states.InnerRow.{InnerRow}
use Rattle.ist_core.specs.Lawful.{Lawful, state_of}
use Rattle.ist_core.specs.Logs.{Log}
use Rattle.ist_core.specs.Pieces.{Inner}
use Rattle.ist_core.specs.Statuses.{Status, status_of}

-- the row has at least two slots, had at least two leaves when it was built, and has a status
pub record IsSizedRow (row : InnerRow) : Type 0 where
  pub degree : 2 ≤ row.degree
  pub size : 2 ≤ row.size
  pub status : Status
  pub status_is : status_of row.status ≡ Some status

-- each published inner row is sized
abbrev pub RowsAreSized : Type 0
RowsAreSized =
    (pairs : List Pair) (words : ℕ) (log : Log) → Lawful pairs words log
    → (node : ℕ) (row : InnerRow)
    → (state_of pairs words log).pieces node ≡ Some (Inner row) → IsSizedRow row
