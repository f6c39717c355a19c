-- The checker's replica of a state, and the snapshot that it mirrors.
use Rattle.std.specs.Prelude.{◌≡◌, ℕ, slice_get, Some}
use Rattle.std.specs.Ordering.{nat_cmp}
use Rattle.std.specs.BTreeMap as tree
use Rattle.ist_core.specs.declared.states.InnerRow.{InnerRow}
use Rattle.ist_core.specs.Arithmetic.{child_count}
use Rattle.ist_core.specs.Pieces.{Inner, as_leaf, as_inner, as_change, as_rebuild}
use Rattle.ist_core.specs.Snapshots.{Snapshot}
use Rattle.check_events.specs.declared.replicas.Replica.{Replica}
use Rattle.check_events.specs.Holding.{TableHolds}

-- the replica says the same as the snapshot, with a map of rows for each kind
pub record Mirrors (r : Replica) (t : Snapshot) : Type 0 where
  pub words : r.words ≡ t.words
  pub next : r.next ≡ t.next
  pub callers : r.callers ≡ t.callers
  pub anchor : r.anchor ≡ t.anchor
  pub leaves : (base : ℕ) → tree.get nat_cmp r.leaves base ≡ as_leaf (t.pieces base)
  pub inners : (base : ℕ) → tree.get nat_cmp r.inners base ≡ as_inner (t.pieces base)
  pub changes : (base : ℕ) → tree.get nat_cmp r.changes base ≡ as_change (t.pieces base)
  pub rebuilds : (base : ℕ) → tree.get nat_cmp r.rebuilds base ≡ as_rebuild (t.pieces base)
  pub held : TableHolds r.held t.held

-- slot i of an inner row at the base holds the word
pub record RowHolds (t : Snapshot) (base i word : ℕ) : Type 0 where
  pub row : InnerRow
  pub published : t.pieces base ≡ Some (Inner row)
  pub in_slot : slice_get row.slots i ≡ Some word

-- child i of an inner row at the base is the one for the key
pub record HasChildFor (t : Snapshot) (base key i : ℕ) : Type 0 where
  pub row : InnerRow
  pub published : t.pieces base ≡ Some (Inner row)
  pub index : i ≡ child_count row.keys key
