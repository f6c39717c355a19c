-- What callers read beside helping: words that name no change, and published rebuilds.
use Rattle.std.specs.Prelude.{◌≡◌, ◌≢◌, ℕ, Some}
use Rattle.ist_core.specs.declared.states.RebuildRow.{RebuildRow}
use Rattle.ist_core.specs.Pieces.{Rebuild}
use Rattle.ist_core.specs.References.{ChangeAt, ref_of}
use Rattle.ist_core.specs.Snapshots.{Snapshot}

-- the word names no change
abbrev pub IsNoChange : ℕ → Type 0
IsNoChange word = (change : ℕ) → ref_of word ≢ Some (ChangeAt change)

-- a rebuild is published at the base
pub record IsRebuildRow (t : Snapshot) (base : ℕ) : Type 0 where
  pub row : RebuildRow
  pub published : t.pieces base ≡ Some (Rebuild row)
