-- How many words of a table are used, which only grows by what is reserved; and what became of each
-- reserved row.
use Rattle.std.specs.Prelude.{◌≡◌, ℕ, ◌+◌, List, [], ◌∷◌, length, Some}
use Rattle.ist_core.specs.declared.pairs.Pair.{Pair}
use Rattle.ist_core.specs.declared.events.Event.{Event}
use Rattle.ist_core.specs.declared.events.Event.TheVariants.{Reserve}
use Rattle.ist_core.specs.RowLayout.{first_row}
use Rattle.ist_core.specs.Shapes.{ideal_words}
use Rattle.ist_core.specs.Pieces.{Piece, size_of}
use Rattle.ist_core.specs.Snapshots.{Snapshot, HoldsRow}
use Rattle.ist_core.specs.Logs.{Log, Happened, Loses}

-- how many of the free words an event takes
abbrev pub reserved_by : Event → ℕ
reserved_by (Reserve caller base size) = size
reserved_by _ = 0

-- how many words are used after a log: the fixed ones, the rows of the start pairs, and all that
-- was reserved
abbrev pub spent : List Pair → Log → ℕ
spent pairs [] = first_row + ideal_words (length pairs)
spent pairs (event ∷ log) = spent pairs log + reserved_by event

-- a row of this size that the caller reserved at the base is still held by it, or is published, or
-- was lost
pub data IsAccountedFor (t : Snapshot) (log : Log) (caller base size : ℕ) : Type 0 where
  still_held : HoldsRow t caller base size → IsAccountedFor t log caller base size
  is_published : (p : Piece) → t.pieces base ≡ Some p → size_of p ≡ size
      → IsAccountedFor t log caller base size
  was_lost : Happened (Loses base) log → IsAccountedFor t log caller base size
