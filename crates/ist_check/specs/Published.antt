-- What the conditions of events are about: rows that are published, and the change that is named.
use Rattle.std.specs.Prelude.{◌≡◌, ◌==◌, if◌then◌else◌, ℕ, List, [], ◌∷◌, Option, Some, None}
use Rattle.ist_core.specs.declared.states.ChangeRow.{ChangeRow}
use Rattle.ist_core.specs.declared.states.InnerRow.{InnerRow}
use Rattle.ist_core.specs.declared.states.RebuildRow.{RebuildRow}
use Rattle.ist_core.specs.declared.lists.Row.{Row}
use Rattle.ist_core.specs.Pieces.{Inner, Change, Rebuild, change_of}
use Rattle.ist_core.specs.Snapshots.{Snapshot}
use Rattle.ist_core.specs.Rebuilding.{IsFinishedWith}

-- a change with P is published at the base
pub record HasChangeRow (t : Snapshot) (base : ℕ) (P : ChangeRow → Type 0) : Type 0 where
  pub change : ChangeRow
  pub published : t.pieces base ≡ Some (Change change)
  pub says : P change

-- an inner row with P is published at the base
pub record HasInner (t : Snapshot) (base : ℕ) (P : InnerRow → Type 0) : Type 0 where
  pub row : InnerRow
  pub published : t.pieces base ≡ Some (Inner row)
  pub says : P row

-- a rebuild with P is published at the base
pub record HasRebuild (t : Snapshot) (base : ℕ) (P : RebuildRow → Type 0) : Type 0 where
  pub row : RebuildRow
  pub published : t.pieces base ≡ Some (Rebuild row)
  pub says : P row

-- whatever it is
abbrev pub Any : {A : Type 0} → A → Type 0
Any x = Unit {0}

-- the change that the first of the rows is, if that row is at the base
abbrev pub first_change_at : List Row → ℕ → Option ChangeRow
first_change_at [] base = None
first_change_at (row ∷ fresh) base = if row.base == base then change_of row.words else None

-- there is a change, and it has P
abbrev pub IsWith : (ChangeRow → Type 0) → Option ChangeRow → Type 0
IsWith P None = ⊥
IsWith P (Some change) = P change

-- the target of the rebuild is finished, with a number of keys that has Q
abbrev pub IsFinishedSo : Snapshot → RebuildRow → (ℕ → Type 0) → Type 0
IsFinishedSo t row Q = (k : ℕ) × IsFinishedWith t row.target k × Q k
