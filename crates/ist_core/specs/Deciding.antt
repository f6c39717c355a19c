-- When the outcome of a change may be fixed, when it may leave its slot, and when it may be counted.
use Rattle.std.specs.Prelude.{◌≡◌, ℕ, ◌<◌, ◌≢◌, Bool, true, false, ◌∷◌, ◌++◌, Some}
use Rattle.ist_core.specs.declared.states.ChangeRow.{ChangeRow}
use Rattle.ist_core.specs.declared.events.Event.{Event}
use Rattle.ist_core.specs.declared.events.Event.TheVariants.{Decide}
use Rattle.ist_core.specs.References.{ChangeAt, word_of}
use Rattle.ist_core.specs.Statuses.{undecided}
use Rattle.ist_core.specs.Pieces.{Change}
use Rattle.ist_core.specs.Snapshots.{Snapshot}
use Rattle.ist_core.specs.Logs.{Log, state, Happened, Okays, Resolves, Counts}
use Rattle.ist_core.specs.Slots.{SlotHolds, IsOpen}
use Rattle.ist_core.specs.Links.{WasOnChain}
use Rattle.ist_core.specs.Rebuilding.{IsUpdate}

-- the change is installed and undecided
pub record IsPending (t : Snapshot) (base : ℕ) (change : ChangeRow) : Type 0 where
  pub published : t.pieces base ≡ Some (Change change)
  pub unset : change.decision ≡ undecided

-- each change that the caller installed has left its slot
abbrev pub AllResolvedOf : Snapshot → Log → ℕ → Type 0
AllResolvedOf t log caller =
    (base : ℕ) (change : ChangeRow) → t.pieces base ≡ Some (Change change) → change.owner ≡ caller
    → Happened (Resolves base) log

-- each installed change has left its slot
abbrev pub AllResolved : Snapshot → Log → Type 0
AllResolved t log = (caller : ℕ) → AllResolvedOf t log caller

-- an Okay may come: the change is pending, and its node is open
pub record CanOkay (t : Snapshot) (caller base : ℕ) : Type 0 where
  pub known : caller < t.callers
  pub change : ChangeRow
  pub pending : IsPending t base change
  pub node_open : IsOpen t change.node

-- what an outcome needs: yes needs an Okay of the change, no needs a node that isn't open
abbrev pub MayBe : Snapshot → Log → ℕ → ChangeRow → Bool → Type 0
MayBe t log base change true = Happened (Okays base) log
MayBe t log base change false = ¬ (IsOpen t change.node)

-- a pending change may be decided this way
pub record CanDecide (t : Snapshot) (log : Log) (caller base : ℕ) (said : Bool) : Type 0 where
  pub known : caller < t.callers
  pub change : ChangeRow
  pub pending : IsPending t base change
  pub outcome : MayBe t log base change said

-- a decided change may leave its slot if it is still there
pub record CanResolve (t : Snapshot) (caller base : ℕ) : Type 0 where
  pub known : caller < t.callers
  pub change : ChangeRow
  pub published : t.pieces base ≡ Some (Change change)
  pub decided : change.decision ≢ undecided
  pub in_slot : SlotHolds t change.node change.index (word_of (ChangeAt base))

-- ---- Count

-- the row at the base is a put or remove of the caller
pub record IsUpdateOf (t : Snapshot) (caller base : ℕ) : Type 0 where
  pub change : ChangeRow
  pub published : t.pieces base ≡ Some (Change change)
  pub owned : change.owner ≡ caller
  pub update : IsUpdate change.kind

-- the event decides a put or remove of the caller yes
abbrev pub SaysYes : Snapshot → ℕ → Event → Type 0
SaysYes t caller (Decide by base true) = IsUpdateOf t caller base
SaysYes t caller _ = ⊥

-- a put or remove of the caller may be counted at a row of its chain: it is the caller's last one
-- that was decided yes, and it wasn't counted there since
pub record CanCount (first : Snapshot) (log : Log) (caller node : ℕ) : Type 0 where
  pub known : caller < (state first log).callers
  pub later : Log
  pub by : ℕ
  pub base : ℕ
  pub earlier : Log
  pub log_is : log ≡ later ++ Decide by base true ∷ earlier
  pub update : IsUpdateOf (state first log) caller base
  pub last : ¬ (Happened (SaysYes (state first log) caller) later)
  pub uncounted : ¬ (Happened (Counts caller node) later)
  pub on_chain : WasOnChain first log update.change.node node
