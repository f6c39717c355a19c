-- The rows of a new table, as they are published. `ist_image` says where they are.
use Rattle.std.specs.Prelude.{ℕ, List, [], ◌∷◌, Some}
use Rattle.ist_core.specs.Pieces.{Piece, Pieces, with_row}
use Rattle.ist_core.specs.Snapshots.{Snapshot}
use Rattle.check_events.specs.declared.replicas.Replica.{Replica}
use Rattle.check_events.specs.Mirroring.{Mirrors}

-- the rows with these published too, from the last to the first
abbrev pub with_pieces : Pieces → List (ℕ × Piece) → Pieces
with_pieces ps [] = ps
with_pieces ps (row ∷ rows) = with_row (with_pieces ps rows) row.0 (Some row.1)

-- if the replica mirrored a snapshot, it mirrors the same snapshot with these rows published too
abbrev pub Publishes : Replica → Replica → List (ℕ × Piece) → Type 0
Publishes old new rows =
    (t : Snapshot) → Mirrors old t
    → Mirrors new (record t { pieces = with_pieces t.pieces rows })
