-- Where rows lie: each was reserved with its own size, and no two share a word.
use Rattle.std.specs.Prelude.{◌≡◌, ℕ, ◌+◌, ◌<◌, ◌≤◌, ◌⊎◌, List, Some}
use Rattle.ist_core.specs.declared.pairs.Pair.{Pair}
use Rattle.ist_core.specs.RowLayout.{first_row}
use Rattle.ist_core.specs.Pieces.{Piece, size_of}
use Rattle.ist_core.specs.Snapshots.{Snapshot}
use Rattle.ist_core.specs.StartLayout.{start}
use Rattle.ist_core.specs.Logs.{Log, Happened, Reserves}

-- the words of a row were set aside for it: it is a row of the new table, or a caller reserved it
pub data IsSetAside (pairs : List Pair) (words : ℕ) (log : Log) (base size : ℕ) : Type 0 where
  at_start : (p : Piece) → (start pairs words).pieces base ≡ Some p → size_of p ≡ size
      → IsSetAside pairs words log base size
  by_caller : (caller : ℕ) → Happened (Reserves caller base size) log
      → IsSetAside pairs words log base size

-- two rows share no word, each given by its base and its size
abbrev pub Apart : ℕ → ℕ → ℕ → ℕ → Type 0
Apart base size other more = (base + size ≤ other) ⊎ (other + more ≤ base)

-- the row has a word, and lies after the fixed words and below the first free word
pub record IsWithin (t : Snapshot) (base size : ℕ) : Type 0 where
  pub some : 0 < size
  pub after_fixed : first_row ≤ base
  pub below_next : base + size ≤ t.next
