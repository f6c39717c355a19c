-- Helping a change: when a caller may, what it does to its log, and what becomes of the
-- change.
use Rattle.std.specs.Prelude.{◌≡◌, ℕ, Bool, true, false, List, Some}
use Rattle.ist_core.specs.declared.states.ChangeRow.{ChangeRow}
use Rattle.ist_core.specs.declared.events.Event.{Event}
use Rattle.ist_core.specs.declared.events.Event.TheVariants.{Okay, Decide, Resolve}
use Rattle.ist_core.specs.References.{ChangeAt, word_of}
use Rattle.ist_core.specs.Pieces.{Change}
use Rattle.ist_core.specs.After.{decision_word}
use Rattle.ist_core.specs.declared.pairs.Pair.{Pair}
use Rattle.ist_core.specs.Snapshots.{Snapshot}
use Rattle.ist_core.specs.Logs.{Log, GoesOn, Happened, Resolves}
use Rattle.ist_core.specs.Slots.{SlotHolds, IsOpen}
use Rattle.ist_core.specs.Lawful.{state_of}
use Rattle.ist_rule.specs.declared.view.View.{View}
use Rattle.ist_core.specs.declared.events.Who.TheVariants.{Caller}
use Rattle.ist_rule.specs.Learning.{now}
use Rattle.ist_dcss.specs.declared.decisions.Decision.{Decision}
use Rattle.ist_dcss.specs.declared.decisions.Decision.TheVariants.{Yes, No}

-- a caller may help a change that its log has installed
pub record MayHelp (v : View) (change : ℕ) : Type 0 where
  pub number : ℕ
  pub mine : v.who ≡ Caller number
  pub row : ChangeRow
  pub installed : (now v).pieces change ≡ Some (Change row)

-- ---- what a caller adds to its log

-- the event is an Okay, a Decide or a Resolve of the change
abbrev pub Serves : ℕ → Event → Type 0
Serves change (Okay caller other) = other ≡ change
Serves change (Decide caller other said) = other ≡ change
Serves change (Resolve caller other) = other ≡ change
Serves change _ = ⊥

-- ---- what becomes of the change

-- is the decision yes?
abbrev pub is_yes : Decision → Bool
is_yes Yes = true
is_yes No = false

-- the change has this decision
pub record IsDecided (v : View) (change : ℕ) (said : Bool) : Type 0 where
  pub row : ChangeRow
  pub published : (now v).pieces change ≡ Some (Change row)
  pub decision : row.decision ≡ decision_word said

-- after some prefix of the log the change is installed, and P is true of its node
pub record WasSeen (P : Snapshot → ℕ → Type 0) (pairs : List Pair) (words : ℕ) (log : Log)
    (change : ℕ) : Type 0 where
  pub prefix : Log
  pub goes_on : GoesOn prefix log
  pub row : ChangeRow
  pub installed : (state_of pairs words prefix).pieces change ≡ Some (Change row)
  pub node : P (state_of pairs words prefix) row.node

-- the node of the change was open after its installing, at some step that the caller has seen
abbrev pub WasOpen : View → ℕ → Type 0
WasOpen v change = WasSeen IsOpen v.start v.words v.log change

-- the node of the change wasn't open at some step that the caller has seen
abbrev pub WasClosed : View → ℕ → Type 0
WasClosed v change = WasSeen (λ t node. ¬ (IsOpen t node)) v.start v.words v.log change

-- the change was resolved, and is in no slot
pub record IsOut (v : View) (change : ℕ) : Type 0 where
  pub resolved : Happened (Resolves change) v.log
  pub gone : (node i : ℕ) → ¬ (SlotHolds (now v) node i (word_of (ChangeAt change)))
