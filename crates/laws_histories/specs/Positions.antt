-- Positions of a key among the changes of a log, as the log grows.
use Rattle.std.specs.Prelude.{ℕ, List, Option}
use Rattle.ist_core.specs.declared.pairs.Pair.{Pair}
use Rattle.ist_core.specs.Logs.{Log, GoesOn}
use Rattle.laws_histories.specs.Searching.{HasPosition}

-- a value that a key had at a position between two logs, it had between an earlier and a longer one
abbrev pub PositionsGoOn : Type 0
PositionsGoOn =
    (pairs : List Pair) (words : ℕ) (seen began log longer : Log) → GoesOn seen began
    → GoesOn log longer → (key : ℕ) (value : Option ℕ)
    → HasPosition pairs words began log key value → HasPosition pairs words seen longer key value
