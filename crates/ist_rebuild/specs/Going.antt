-- How a caller goes on while it starts or helps a rebuild.
use Rattle.std.specs.Prelude.{◌≡◌, ℕ, List, Some}
use Rattle.ist_core.specs.declared.events.Event.{Event}
use Rattle.ist_core.specs.declared.events.Event.TheVariants.{Enter, Reserve, Install, Okay, Count, Decide, Resolve}
use Rattle.ist_core.specs.declared.lists.Row.{Row}
use Rattle.ist_core.specs.declared.states.ChangeRow.{ChangeRow}
use Rattle.ist_core.specs.References.{InnerAt, word_of}
use Rattle.ist_core.specs.Statuses.{start_kind, finish_kind}
use Rattle.ist_core.specs.Writing.{first_change}
use Rattle.ist_rows.specs.declared.callers.Caller.{Caller}

-- ---- how the caller goes on

-- the rows are those of a change of this kind
abbrev pub IsOfKind : ℕ → List Row → Type 0
IsOfKind kind rows = (change : ChangeRow) → first_change rows ≡ Some change → change.kind ≡ kind

-- the event is a step of starting a rebuild: a reserving, the installing of a start, or a step of
-- help
abbrev pub Begins : Event → Type 0
Begins (Reserve caller base size) = Unit {0}
Begins (Install caller base rows) = IsOfKind start_kind rows
Begins (Okay caller base) = Unit {0}
Begins (Decide caller base said) = Unit {0}
Begins (Resolve caller base) = Unit {0}
Begins _ = ⊥

-- a start that the event installs replaces this node
abbrev pub StartsAt : ℕ → Event → Type 0
StartsAt target (Install caller base rows) =
    (change : ChangeRow) → first_change rows ≡ Some change → change.kind ≡ start_kind
    → change.from ≡ word_of (InnerAt target)
StartsAt target _ = Unit {0}

-- the event is a step of helping a rebuild: it is not a Count and not an Enter, and an Install only
-- of a finish
abbrev pub ServesRebuild : Event → Type 0
ServesRebuild (Enter caller) = ⊥
ServesRebuild (Install caller base rows) = IsOfKind finish_kind rows
ServesRebuild (Count caller node) = ⊥
ServesRebuild _ = Unit {0}

-- the caller holds the leaf and the pair row that it held
abbrev pub KeepsFresh : Caller → Caller → Type 0
KeepsFresh old new = (new.leaf ≡ old.leaf) × (new.pair ≡ old.pair)
