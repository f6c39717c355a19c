-- The state of a table at one moment, as a value. All definitions use this form.
use Rattle.std.specs.Prelude.{◌≡◌, ℕ, ◌==◌, not, if◌then◌else◌, List, map, filter, length}
use Rattle.std.specs.List.{list_any}
use Rattle.std.specs.FinMap as fin
use Rattle.ist_core.specs.declared.lists.HeldRow.{HeldRow}
use Rattle.ist_core.specs.declared.lists.Row.{Row}
use Rattle.ist_core.specs.declared.states.State.{State}
use Rattle.ist_core.specs.RowLayout.{anchor}
use Rattle.ist_core.specs.Elements.{Among, Each}
use Rattle.ist_core.specs.Pieces.{Pieces, as_leaf, as_inner, as_change, as_rebuild, changed_at, with_slot}

-- a table of `words` words, free from `next` on: its number of callers, the word in the anchor's
-- slot, the published rows, and the rows that callers hold, in the order in which they were
-- reserved
pub record Snapshot : Type 0 where
  pub words : ℕ
  pub next : ℕ
  pub callers : ℕ
  pub anchor : ℕ
  pub pieces : Pieces
  pub held : List HeldRow

-- the program's `State` says the same as the snapshot, with a finite map of rows for each kind
pub record Shows (s : State) (t : Snapshot) : Type 0 where
  pub words : s.words ≡ t.words
  pub next : s.next ≡ t.next
  pub callers : s.callers ≡ t.callers
  pub anchor : s.anchor ≡ t.anchor
  pub leaves : (base : ℕ) → fin.get s.leaves base ≡ as_leaf (t.pieces base)
  pub inners : (base : ℕ) → fin.get s.inners base ≡ as_inner (t.pieces base)
  pub changes : (base : ℕ) → fin.get s.changes base ≡ as_change (t.pieces base)
  pub rebuilds : (base : ℕ) → fin.get s.rebuilds base ≡ as_rebuild (t.pieces base)
  pub held : s.held ≡ t.held

-- the snapshot with a word in slot i of a node. No row has the anchor's base
abbrev pub with_slot_at : Snapshot → ℕ → ℕ → ℕ → Snapshot
with_slot_at t node i word =
    record t {
      anchor = if node == anchor then word else t.anchor;
      pieces = changed_at t.pieces node (with_slot i word);
    }

-- ---- held rows

-- the bases of some rows
abbrev pub bases_of : List Row → List ℕ
bases_of rows = map (λ row. row.base) rows

-- the lengths in words of some rows
abbrev pub sizes_of : List Row → List ℕ
sizes_of rows = map (λ row. length row.words) rows

-- the held rows except those with one of these bases
abbrev pub without : List ℕ → List HeldRow → List HeldRow
without bases held = filter (λ h. not (list_any (λ base. base == h.base) bases)) held

-- the caller holds a row of this size at the base
abbrev pub HoldsRow : Snapshot → ℕ → ℕ → ℕ → Type 0
HoldsRow t caller base size = Among record { caller = caller; base = base; size = size } t.held

-- the caller holds each of these rows
abbrev pub HoldsRows : Snapshot → ℕ → List Row → Type 0
HoldsRows t caller rows = Each (λ row. HoldsRow t caller row.base (length row.words)) rows

-- the sizes of the rows that the caller holds, in the order in which they were reserved
abbrev pub sizes_held : Snapshot → ℕ → List ℕ
sizes_held t caller = map (λ h. h.size) (filter (λ h. h.caller == caller) t.held)
