-- The law over lawful logs on a table whose callers are done. `src/settling.rt` names it.
use Rattle.std.specs.Prelude.{List, Some, ℕ, ◌+◌, ◌<◌, ◌∷◌, ◌≡◌, ◌≢◌, ◌≤◌, ◌⊎◌}
use Rattle.ist_core.specs.declared.events.Event.TheVariants.{Count, Install}
use Rattle.ist_core.specs.declared.events.Event.{Event}
use Rattle.ist_core.specs.declared.events.Who.TheVariants.{Caller}
use Rattle.ist_core.specs.declared.pairs.Pair.{Pair}
use Rattle.ist_core.specs.declared.states.ChangeRow.{ChangeRow}
use Rattle.ist_core.specs.declared.states.InnerRow.{InnerRow}
use Rattle.ist_core.specs.Arithmetic.{limit}
use Rattle.ist_core.specs.Authors.{GoesOnBy, Later}
use Rattle.ist_core.specs.Deciding.{AllResolvedOf}
use Rattle.ist_core.specs.Lawful.{Lawful, state_of}
use Rattle.ist_core.specs.Links.{WasOnChain}
use Rattle.ist_core.specs.Logs.{Counts, GoesOn, Log, state}
use Rattle.ist_core.specs.Pieces.{Change, Inner}
use Rattle.ist_core.specs.Rebuilding.{IsReplaced}
use Rattle.ist_core.specs.References.{RebuildAt, ref_of}
use Rattle.ist_core.specs.Resting.{IsSettled}
use Rattle.ist_core.specs.Slots.{IsOpen}
use Rattle.ist_core.specs.Snapshots.{Snapshot}
use Rattle.ist_core.specs.StartLayout.{start}
use Rattle.ist_core.specs.Statuses.{decided_yes, start_kind}
use Rattle.ist_core.specs.Writing.{first_change}

-- the rebuild of the start is replaced, or the start's node isn't open
abbrev pub IsDoneStart : Snapshot → ChangeRow → ℕ → Type 0
IsDoneStart t change rebuild = IsReplaced t rebuild ⊎ ¬ (IsOpen t change.node)

-- each start of the caller that was decided yes is done
abbrev pub StartsAreDone : Snapshot → ℕ → Type 0
StartsAreDone t caller =
    (base : ℕ) (change : ChangeRow) → t.pieces base ≡ Some (Change change)
    → change.owner ≡ caller → change.kind ≡ start_kind → change.decision ≡ decided_yes
    → (rebuild : ℕ) → ref_of change.to ≡ Some (RebuildAt rebuild) → IsDoneStart t change rebuild

-- a Count of the caller at the node made its row due: it brought the row's count to its limit or
-- beyond
pub data MadeDue (first : Snapshot) (caller node : ℕ) : Log → Type 0 where
  due_now : {log : Log} (row : InnerRow) → (state first log).pieces node ≡ Some (Inner row)
      → limit row.size ≤ row.count + 1
      → MadeDue first caller node (Count caller node ∷ log)
  due_before : {log : Log} (event : Event) → MadeDue first caller node log
      → MadeDue first caller node (event ∷ log)

-- some row on the chain of the node isn't open
pub record HasClosedAbove (first : Snapshot) (log : Log) (node : ℕ) : Type 0 where
  pub row : ℕ
  pub on_chain : WasOnChain first log node row
  pub closed : ¬ (IsOpen (state first log) row)

-- each row that a Count of the caller made due has such a row on its chain
abbrev pub DueRowsAreClosed : Snapshot → Log → ℕ → Type 0
DueRowsAreClosed first log caller =
    (node : ℕ) → MadeDue first caller node log → HasClosedAbove first log node

-- ---- at rest

-- if both hold for each caller, the table is settled. It doesn't matter whether each change was
-- resolved
abbrev pub TablesAreSettled : Type 0
TablesAreSettled =
    (pairs : List Pair) (words : ℕ) (log : Log) → Lawful pairs words log
    → ((caller : ℕ) → caller < (state_of pairs words log).callers
    → StartsAreDone (state_of pairs words log) caller)
    → ((caller : ℕ) → caller < (state_of pairs words log).callers
    → DueRowsAreClosed (start pairs words) log caller)
    → IsSettled (state_of pairs words log)

-- ---- in longer logs

-- a start that is done stays done, whoever makes the further events
abbrev pub DoneStartsStay : Type 0
DoneStartsStay =
    (pairs : List Pair) (words : ℕ) (earlier log : Log) → Lawful pairs words log
    → GoesOn earlier log → (base : ℕ) (change : ChangeRow) (rebuild : ℕ)
    → (state_of pairs words earlier).pieces base ≡ Some (Change change)
    → IsDoneStart (state_of pairs words earlier) change rebuild
    → IsDoneStart (state_of pairs words log) change rebuild

-- a node keeps a row on its chain that isn't open
abbrev pub ClosedRowsStay : Type 0
ClosedRowsStay =
    (pairs : List Pair) (words : ℕ) (earlier log : Log) → Lawful pairs words log
    → GoesOn earlier log → (node : ℕ) → HasClosedAbove (start pairs words) earlier node
    → HasClosedAbove (start pairs words) log node

-- the event is no Install of a start by the caller
abbrev pub InstallsNoStart : ℕ → Event → Type 0
InstallsNoStart caller (Install by base rows) =
    by ≡ caller → (change : ChangeRow) → first_change rows ≡ Some change
    → change.kind ≢ start_kind
InstallsNoStart caller _ = Unit {0}

-- the event is no Count of the caller
abbrev pub CountsNothing : ℕ → Event → Type 0
CountsNothing caller event = (node : ℕ) → ¬ (Counts caller node event)

-- if all changes of the caller are resolved, its starts stay done while others make events
abbrev pub StartsStayDone : Type 0
StartsStayDone =
    (pairs : List Pair) (words : ℕ) (earlier log : Log) → Lawful pairs words log → (caller : ℕ)
    → Later (Caller caller) earlier log
    → AllResolvedOf (state_of pairs words earlier) earlier caller
    → StartsAreDone (state_of pairs words earlier) caller
    → StartsAreDone (state_of pairs words log) caller

-- each row that it made due keeps such a row on its chain while others make events
abbrev pub DueRowsStayClosed : Type 0
DueRowsStayClosed =
    (pairs : List Pair) (words : ℕ) (earlier log : Log) → Lawful pairs words log → (caller : ℕ)
    → Later (Caller caller) earlier log
    → DueRowsAreClosed (start pairs words) earlier caller
    → DueRowsAreClosed (start pairs words) log caller

-- its starts stay done over its own events too, if it installs no other start
abbrev pub StartsStayDoneByOwn : Type 0
StartsStayDoneByOwn =
    (pairs : List Pair) (words : ℕ) (earlier log : Log) → Lawful pairs words log → (caller : ℕ)
    → GoesOnBy (InstallsNoStart caller) earlier log
    → AllResolvedOf (state_of pairs words earlier) earlier caller
    → StartsAreDone (state_of pairs words earlier) caller
    → StartsAreDone (state_of pairs words log) caller

-- each row that it made due keeps such a row over its own events too, if it counts nothing
abbrev pub DueRowsStayClosedByOwn : Type 0
DueRowsStayClosedByOwn =
    (pairs : List Pair) (words : ℕ) (earlier log : Log) → Lawful pairs words log → (caller : ℕ)
    → GoesOnBy (CountsNothing caller) earlier log
    → DueRowsAreClosed (start pairs words) earlier caller
    → DueRowsAreClosed (start pairs words) log caller

-- a Count of its own keeps that too, if it leaves the row's count below the limit, or if the node
-- has such a row on its chain after it
abbrev pub CountsKeepDueRowsClosed : Type 0
CountsKeepDueRowsClosed =
    (pairs : List Pair) (words : ℕ) (log : Log) (caller node : ℕ)
    → Lawful pairs words (Count caller node ∷ log) → (row : InnerRow)
    → (state_of pairs words log).pieces node ≡ Some (Inner row)
    → (row.count + 1 < limit row.size)
    ⊎ HasClosedAbove (start pairs words) (Count caller node ∷ log) node
    → DueRowsAreClosed (start pairs words) log caller
    → DueRowsAreClosed (start pairs words) (Count caller node ∷ log) caller
