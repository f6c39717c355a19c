-- How the exchanges of a helper are named, and what its own steps promise each other.
use Rattle.std.specs.Prelude.{◌≡◌, ◌≢◌, ℕ, ◌+◌, ◌<◌, ◌==◌, List, length, Bool, true, false, if◌then◌else◌, slice_get, Some}
use Rattle.ist_core.specs.declared.states.ChangeRow.{ChangeRow}
use Rattle.ist_core.specs.declared.events.Event.{Event}
use Rattle.ist_core.specs.declared.events.Event.TheVariants.{Install, Decide, Resolve}
use Rattle.ist_core.specs.Snapshots.{HoldsRow}
use Rattle.ist_core.specs.declared.events.Who.TheVariants.{Caller}
use Rattle.ist_rule.specs.Rule.{own_at}
use Rattle.ist_dcss.specs.Installing.{Filling, rows_of}
use Rattle.ist_core.specs.RowLayout.{change_from_offset, change_to_offset}
use Rattle.ist_core.specs.Statuses.{undecided, decided_yes}
use Rattle.ist_core.specs.Pieces.{Change, words_of}
use Rattle.ist_core.specs.Logs.{Happened, Okays}
use Rattle.ist_core.specs.Slots.{SlotHolds, IsOpen}
use Rattle.ist_core.specs.Writing.{place_of_slot}
use Rattle.ist_rule.specs.declared.view.View.{View}
use Rattle.ist_rule.specs.Learning.{now, GoesOnTo}
use Rattle.ist_rule.specs.Watching.{number_of}

-- the Decide that an exchange of a decision is
abbrev pub deciding : View → ℕ → ℕ → Event
deciding v change word = Decide (number_of v.who) change (word == decided_yes)

-- the Resolve that an exchange of a slot is
abbrev pub resolving : View → ℕ → Event
resolving v change = Resolve (number_of v.who) change

-- what a Decide needs from the caller's log: that the change is decided already, or an Okay for
-- yes, or for no that the node isn't open
pub data IsDecidable (v : View) (change : ℕ) (row : ChangeRow) : Bool → Type 0 where
  settled : {said : Bool} → row.decision ≢ undecided → IsDecidable v change row said
  okayed : Happened (Okays change) v.log → IsDecidable v change row true
  closed : ¬ (IsOpen (now v) row.node) → IsDecidable v change row false

-- the node has a slot of this number
pub record IsSlot (v : View) (node i : ℕ) : Type 0 where
  pub word : ℕ
  pub holds : SlotHolds (now v) node i word

-- the place is the place of the slot of a change that is installed in the caller's log
pub record IsSlotOf (v : View) (change place : ℕ) : Type 0 where
  pub row : ChangeRow
  pub published : (now v).pieces change ≡ Some (Change row)
  pub at : place ≡ place_of_slot (now v) row.node row.index

-- the word is at this offset from the base of a change that is installed in the caller's log
pub record IsField (v : View) (change offset word : ℕ) : Type 0 where
  pub row : ChangeRow
  pub published : (now v).pieces change ≡ Some (Change row)
  pub is : slice_get (words_of (Change row)) offset ≡ Some word

-- the decision that holds after an exchange to `wanted` that found `stood`
abbrev pub standing : ℕ → ℕ → ℕ
standing wanted stood = if stood == undecided then wanted else stood

-- which word of a change its slot gets after this decision
abbrev pub outcome_offset_of : Bool → ℕ
outcome_offset_of true = change_to_offset
outcome_offset_of false = change_from_offset

-- ---- installing

-- the caller holds a row of this many words at the base, and has stored these words there
pub record HasFilled (v : View) (base : ℕ) (words : List ℕ) : Type 0 where
  pub number : ℕ
  pub mine : v.who ≡ Caller number
  pub held : HoldsRow (now v) number base (length words)
  pub stored : (k : ℕ) → k < length words
      → slice_get words k ≡ Some (own_at v.own (base + k))

-- the caller made loads; the slot of the change lies at the place, and the change expects `from`
-- there
pub record IsAimed (v : View) (f : Filling) (place from : ℕ) (w : View) : Type 0 where
  pub seen : GoesOnTo v w
  pub at : place ≡ place_of_slot (now w) f.change.node f.change.index
  pub from_is : f.change.from ≡ from

-- the Install that an exchange of a slot for the change's word is
abbrev pub installing : View → Filling → ℕ → Event
installing v f base = Install (number_of v.who) base (rows_of f base)
