-- What a slot that was passed still holds: the word that it was passed with, or a change that can't take effect.
use Rattle.std.specs.Prelude.{◌≡◌, ℕ, ◌≢◌, Some}
use Rattle.ist_core.specs.declared.states.InnerRow.{InnerRow}
use Rattle.ist_core.specs.declared.states.ChangeRow.{ChangeRow}
use Rattle.ist_core.specs.References.{ChangeAt, word_of}
use Rattle.ist_core.specs.Statuses.{open_word, decided_yes}
use Rattle.ist_core.specs.Pieces.{Inner, Change}
use Rattle.ist_core.specs.Snapshots.{Snapshot}
use Rattle.ist_core.specs.Logs.{Log, Happened, Okays}
use Rattle.ist_core.specs.Slots.{SlotHolds}

-- slot i of the node holds a change in vain: it would take the word out, it has no Okay, and it
-- wasn't decided yes
pub record HasVainChange (t : Snapshot) (log : Log) (node i word : ℕ) : Type 0 where
  pub base : ℕ
  pub change : ChangeRow
  pub published : t.pieces base ≡ Some (Change change)
  pub in_slot : SlotHolds t node i (word_of (ChangeAt base))
  pub from : change.from ≡ word
  pub not_yes : change.decision ≢ decided_yes
  pub unseen : ¬ (Happened (Okays base) log)

-- slot i of the node holds the word, or a change in vain that would take it out
pub data KeepsWord (t : Snapshot) (log : Log) (node i word : ℕ) : Type 0 where
  holds_it : SlotHolds t node i word → KeepsWord t log node i word
  holds_change : HasVainChange t log node i word → KeepsWord t log node i word

-- the node is an inner row that isn't open, and its slot i keeps the word
pub record IsClosedOver (t : Snapshot) (log : Log) (node i word : ℕ) : Type 0 where
  pub row : InnerRow
  pub published : t.pieces node ≡ Some (Inner row)
  pub closed : row.status ≢ open_word
  pub keeps : KeepsWord t log node i word
