-- The laws over lawful logs on rows that were linked. `src/links.rt` lists them.
use Rattle.std.specs.Prelude.{List, Some, true, ℕ, ◌∷◌, ◌≡◌, ◌≢◌, ◌⊎◌}
use Rattle.ist_core.specs.declared.events.Event.TheVariants.{Decide}
use Rattle.ist_core.specs.declared.pairs.Pair.{Pair}
use Rattle.ist_core.specs.declared.states.ChangeRow.{ChangeRow}
use Rattle.ist_core.specs.declared.states.InnerRow.{InnerRow}
use Rattle.ist_core.specs.Lawful.{Lawful, state_of}
use Rattle.ist_core.specs.Links.{IsChild, Linked, WasLinked}
use Rattle.ist_core.specs.Logs.{GoesOn, Happened, Log, Okays, Resolves}
use Rattle.ist_core.specs.Marking.{IsFrozen}
use Rattle.ist_core.specs.Pieces.{Change, Inner}
use Rattle.ist_core.specs.Rebuilding.{IsFinishedWith}
use Rattle.ist_core.specs.References.{ChangeAt, word_of}
use Rattle.ist_core.specs.Slots.{IsOpen, SlotHolds}
use Rattle.ist_core.specs.Snapshots.{Snapshot}
use Rattle.ist_core.specs.StartLayout.{start}
use Rattle.ist_core.specs.Statuses.{decided_yes, open_word, undecided}

-- the node is finished, with some number of keys
abbrev pub IsFinished : Snapshot → ℕ → Type 0
IsFinished t node = (k : ℕ) × IsFinishedWith t node k

-- ---- linked rows

-- a row that was linked is linked or finished
abbrev pub RowsStayLinked : Type 0
RowsStayLinked =
    (pairs : List Pair) (words : ℕ) (log : Log) → Lawful pairs words log → (node : ℕ)
    → WasLinked (start pairs words) log node
    → Linked (state_of pairs words log) node ⊎ IsFinished (state_of pairs words log) node

-- a row that was linked and is open is linked
abbrev pub OpenRowsAreLinked : Type 0
OpenRowsAreLinked =
    (pairs : List Pair) (words : ℕ) (log : Log) → Lawful pairs words log → (node : ℕ)
    → WasLinked (start pairs words) log node → IsOpen (state_of pairs words log) node
    → Linked (state_of pairs words log) node

-- a row that isn't open was linked
abbrev pub ClosedRowsWereLinked : Type 0
ClosedRowsWereLinked =
    (pairs : List Pair) (words : ℕ) (log : Log) → Lawful pairs words log
    → (node : ℕ) (row : InnerRow)
    → (state_of pairs words log).pieces node ≡ Some (Inner row) → row.status ≢ open_word
    → WasLinked (start pairs words) log node

-- each logical child of a finished row is finished
abbrev pub ChildrenOfFinishedRows : Type 0
ChildrenOfFinishedRows =
    (pairs : List Pair) (words : ℕ) (log : Log) → Lawful pairs words log → (node i child : ℕ)
    → IsFinished (state_of pairs words log) node → IsChild (state_of pairs words log) node i child
    → IsFinished (state_of pairs words log) child

-- ---- changes

-- the node of each change was linked
abbrev pub NodesWereLinked : Type 0
NodesWereLinked =
    (pairs : List Pair) (words : ℕ) (log : Log) → Lawful pairs words log
    → (base : ℕ) (change : ChangeRow)
    → (state_of pairs words log).pieces base ≡ Some (Change change)
    → WasLinked (start pairs words) log change.node

-- a change that wasn't resolved is in its slot
abbrev pub UnresolvedChangesStand : Type 0
UnresolvedChangesStand =
    (pairs : List Pair) (words : ℕ) (log : Log) → Lawful pairs words log
    → (base : ℕ) (change : ChangeRow)
    → (state_of pairs words log).pieces base ≡ Some (Change change)
    → ¬ (Happened (Resolves base) log)
    → SlotHolds (state_of pairs words log) change.node change.index (word_of (ChangeAt base))

-- an undecided change wasn't resolved
abbrev pub UndecidedChangesAreUnresolved : Type 0
UndecidedChangesAreUnresolved =
    (pairs : List Pair) (words : ℕ) (log : Log) → Lawful pairs words log
    → (base : ℕ) (change : ChangeRow)
    → (state_of pairs words log).pieces base ≡ Some (Change change) → change.decision ≡ undecided
    → ¬ (Happened (Resolves base) log)

-- a change that was resolved is in no slot
abbrev pub ResolvedChangesAreGone : Type 0
ResolvedChangesAreGone =
    (pairs : List Pair) (words : ℕ) (log : Log) → Lawful pairs words log → (base : ℕ)
    → Happened (Resolves base) log → (node i : ℕ)
    → ¬ (SlotHolds (state_of pairs words log) node i (word_of (ChangeAt base)))

-- if a change has an Okay and wasn't resolved, its slot wasn't passed
abbrev pub OkayedSlotsAreUnpassed : Type 0
OkayedSlotsAreUnpassed =
    (pairs : List Pair) (words : ℕ) (log : Log) → Lawful pairs words log
    → (base : ℕ) (change : ChangeRow)
    → (state_of pairs words log).pieces base ≡ Some (Change change)
    → ¬ (Happened (Resolves base) log)
    → Happened (Okays base) log → (word : ℕ) → ¬ (IsFrozen log change.node change.index word)

-- when a change is decided yes its node is linked, before and after the Decide
abbrev pub YesIsLinked : Type 0
YesIsLinked =
    (pairs : List Pair) (words : ℕ) (log : Log) (caller base : ℕ)
    → Lawful pairs words (Decide caller base true ∷ log) → (change : ChangeRow)
    → (state_of pairs words log).pieces base ≡ Some (Change change)
    → Linked (state_of pairs words log) change.node
    × Linked (state_of pairs words (Decide caller base true ∷ log)) change.node

-- a change that is undecided while its node isn't linked is never decided yes
abbrev pub UnlinkedChangesAreRefused : Type 0
UnlinkedChangesAreRefused =
    (pairs : List Pair) (words : ℕ) (earlier log : Log) → Lawful pairs words log
    → GoesOn earlier log
    → (base : ℕ) (before change : ChangeRow)
    → (state_of pairs words earlier).pieces base ≡ Some (Change before)
    → before.decision ≡ undecided
    → ¬ (Linked (state_of pairs words earlier) before.node)
    → (state_of pairs words log).pieces base ≡ Some (Change change) → change.decision ≢ decided_yes
