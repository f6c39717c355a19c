-- The laws over lawful logs on changes and the callers that install them. `src/settling.rt` lists them.
use Rattle.std.specs.Prelude.{List, Some, ℕ, ◌<◌, ◌∷◌, ◌≡◌, ◌⊎◌}
use Rattle.ist_core.specs.declared.events.Event.TheVariants.{Install}
use Rattle.ist_core.specs.declared.events.Who.TheVariants.{Caller}
use Rattle.ist_core.specs.declared.lists.Row.{Row}
use Rattle.ist_core.specs.declared.pairs.Pair.{Pair}
use Rattle.ist_core.specs.declared.states.ChangeRow.{ChangeRow}
use Rattle.ist_core.specs.Authors.{Later}
use Rattle.ist_core.specs.Deciding.{AllResolvedOf}
use Rattle.ist_core.specs.Installing.{IsUnrefused}
use Rattle.ist_core.specs.Lawful.{Lawful, state_of}
use Rattle.ist_core.specs.Logs.{GoesOn, Log}
use Rattle.ist_core.specs.Pieces.{Change}
use Rattle.ist_core.specs.Slots.{IsOpen}
use Rattle.ist_core.specs.Snapshots.{Snapshot}
use Rattle.ist_core.specs.Statuses.{decided_no}

-- ---- owners

-- the owner of each change is a caller that entered
abbrev pub OwnersAreKnown : Type 0
OwnersAreKnown =
    (pairs : List Pair) (words : ℕ) (log : Log) → Lawful pairs words log
    → (base : ℕ) (change : ChangeRow)
    → (state_of pairs words log).pieces base ≡ Some (Change change)
    → change.owner < (state_of pairs words log).callers

-- there is a change at the base
abbrev pub HasChange : Snapshot → ℕ → Type 0
HasChange t base = (change : ChangeRow) × (t.pieces base ≡ Some (Change change))

-- the change at the base was installed by the caller after the earlier log
pub record WasInstalled (earlier log : Log) (caller base : ℕ) : Type 0 where
  pub at : Log
  pub rows : List Row
  pub since : GoesOn earlier at
  pub until : GoesOn (Install caller base rows ∷ at) log

-- a change was there in an earlier log, or was installed since by its owner
abbrev pub ChangesComeByInstalls : Type 0
ChangesComeByInstalls =
    (pairs : List Pair) (words : ℕ) (earlier log : Log) → Lawful pairs words log
    → GoesOn earlier log → (base : ℕ) (change : ChangeRow)
    → (state_of pairs words log).pieces base ≡ Some (Change change)
    → HasChange (state_of pairs words earlier) base ⊎ WasInstalled earlier log change.owner base

-- if only others made further events, each change of the caller was there before
abbrev pub OthersInstallNoOwn : Type 0
OthersInstallNoOwn =
    (pairs : List Pair) (words : ℕ) (earlier log : Log) → Lawful pairs words log → (caller : ℕ)
    → Later (Caller caller) earlier log → (base : ℕ) (change : ChangeRow)
    → (state_of pairs words log).pieces base ≡ Some (Change change) → change.owner ≡ caller
    → HasChange (state_of pairs words earlier) base

-- if all changes of the caller were resolved before, each is what it was
abbrev pub ResolvedChangesStay : Type 0
ResolvedChangesStay =
    (pairs : List Pair) (words : ℕ) (earlier log : Log) → Lawful pairs words log → (caller : ℕ)
    → Later (Caller caller) earlier log
    → AllResolvedOf (state_of pairs words earlier) earlier caller
    → (base : ℕ) (change : ChangeRow)
    → (state_of pairs words log).pieces base ≡ Some (Change change) → change.owner ≡ caller
    → (state_of pairs words earlier).pieces base ≡ Some (Change change)

-- ---- refused changes

-- the node of a change that was decided no isn't open. The anchor always is, so no change of its
-- slot is ever decided no
abbrev pub RefusedNodesAreClosed : Type 0
RefusedNodesAreClosed =
    (pairs : List Pair) (words : ℕ) (log : Log) → Lawful pairs words log
    → (base : ℕ) (change : ChangeRow)
    → (state_of pairs words log).pieces base ≡ Some (Change change)
    → change.decision ≡ decided_no → ¬ (IsOpen (state_of pairs words log) change.node)

-- no change on an open node was decided no, whoever installed it
abbrev pub OpenNodesRefuseNone : Type 0
OpenNodesRefuseNone =
    (pairs : List Pair) (words : ℕ) (log : Log) → Lawful pairs words log → (caller node : ℕ)
    → IsOpen (state_of pairs words log) node
    → IsUnrefused (state_of pairs words log) caller node
