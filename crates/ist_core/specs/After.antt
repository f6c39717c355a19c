-- What each event writes: the state after it.
use Rattle.std.specs.Prelude.{ℕ, ◌+◌, ◌==◌, Bool, if◌then◌else◌, List, [], ◌∷◌, ◌++◌, Option, Some, None}
use Rattle.ist_core.specs.declared.states.ChangeRow.{ChangeRow}
use Rattle.ist_core.specs.declared.states.RebuildRow.{RebuildRow}
use Rattle.ist_core.specs.declared.lists.Row.{Row}
use Rattle.ist_core.specs.declared.events.Event.{Event}
use Rattle.ist_core.specs.declared.events.Event.TheVariants.{Enter, Reserve, Install, Okay, Decide, Resolve, Count, Mark, Pass, Finish, Root, Draw, Place, Lose}
use Rattle.ist_core.specs.References.{Ref, InnerAt, ChangeAt, ref_of, word_of}
use Rattle.ist_core.specs.Statuses.{marked_word, finished_word, decided_yes, decided_no, start_kind}
use Rattle.ist_core.specs.Pieces.{Change, Pieces, as_change, as_rebuild, leaf_of, change_of, rebuild_of, with_row, with_inners, changed_at, with_slot, with_status, counted, with_decision, with_root, drawn, inner_of}
use Rattle.ist_core.specs.Snapshots.{Snapshot, with_slot_at, bases_of, without}

-- the word of a decision
abbrev pub decision_word : Bool → ℕ
decision_word said = if said then decided_yes else decided_no

-- the word that a decided change leaves in its slot: `to` after yes, `from` otherwise
abbrev pub side_of : ChangeRow → ℕ
side_of change = if change.decision == decided_yes then change.to else change.from

-- ---- Install

-- the rows, with those that follow the change's row published: a pair row and a leaf, or a rebuild,
-- or a leaf
abbrev pub with_fresh : Pieces → ChangeRow → List Row → Pieces
with_fresh ps change (pair ∷ leaf ∷ []) =
    with_row (with_row ps leaf.base (leaf_of leaf.words)) pair.base (inner_of pair.words)
with_fresh ps change (fresh ∷ []) =
    with_row ps fresh.base (if change.kind == start_kind then rebuild_of fresh.words else leaf_of fresh.words)
with_fresh ps change _ = ps

-- the change is published at its base with its fresh rows, and its word is in its slot
abbrev pub with_change : Snapshot → ℕ → List Row → Option ChangeRow → Snapshot
with_change t base fresh None = t
with_change t base fresh (Some change) =
    with_slot_at
    record t { pieces = with_row (with_fresh t.pieces change fresh) base (Some (Change change)) }
    change.node change.index (word_of (ChangeAt base))

-- the rows are published; the first is the change's row
abbrev pub installed : Snapshot → ℕ → List Row → Snapshot
installed t base [] = t
installed t base (row ∷ fresh) = with_change t base fresh (change_of row.words)

-- ---- Resolve

-- the change leaves its slot, which gets the change's side
abbrev pub resolved : Snapshot → Option ChangeRow → Snapshot
resolved t None = t
resolved t (Some change) = with_slot_at t change.node change.index (side_of change)

-- ---- Place

-- the rows with a word in slot `part` of the row that the reference names
abbrev pub with_part : Pieces → Option Ref → ℕ → ℕ → Pieces
with_part ps (Some (InnerAt root)) part word = changed_at ps root (with_slot part word)
with_part ps _ part word = ps

-- the word is in slot `part` of the rebuild's root
abbrev pub placed : Pieces → Option RebuildRow → ℕ → ℕ → Pieces
placed ps None part word = ps
placed ps (Some r) part word = with_part ps (ref_of r.root) part word

-- ---- all events

-- the state after an event
abbrev pub after : Snapshot → Event → Snapshot
after t (Enter caller) = record t { callers = t.callers + 1 }
after t (Reserve caller base size) =
    record t { next = base + size; held = t.held ++ record { caller = caller; base = base; size = size } ∷ [] }
after t (Install caller change rows) =
    record (installed t change rows) { held = without (bases_of rows) t.held }
after t (Okay caller change) = t
after t (Decide caller change said) =
    record t { pieces = changed_at t.pieces change (with_decision (decision_word said)) }
after t (Resolve caller change) = resolved t (as_change (t.pieces change))
after t (Count caller node) = record t { pieces = changed_at t.pieces node counted }
after t (Mark caller node) = record t { pieces = changed_at t.pieces node (with_status marked_word) }
after t (Pass caller node index word) = t
after t (Finish caller node keys) =
    record t { pieces = changed_at t.pieces node (with_status (finished_word keys)) }
after t (Root caller rebuild word rows) =
    record t {
      pieces = changed_at (with_inners t.pieces rows) rebuild (with_root word);
      held = without (bases_of rows) t.held;
    }
after t (Draw caller rebuild part) = record t { pieces = changed_at t.pieces rebuild drawn }
after t (Place caller rebuild part word rows) =
    record t {
      pieces = placed (with_inners t.pieces rows) (as_rebuild (t.pieces rebuild)) part word;
      held = without (bases_of rows) t.held;
    }
after t (Lose caller bases) = record t { held = without bases t.held }
