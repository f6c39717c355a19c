-- Logs: lists of events, the newest first; the state after each, and what was true or happened on
-- the way.
use Rattle.std.specs.Prelude.{◌≡◌, ℕ, ◌⊎◌, List, [], ◌∷◌}
use Rattle.ist_core.specs.declared.events.Event.{Event}
use Rattle.ist_core.specs.declared.events.Event.TheVariants.{Reserve, Okay, Resolve, Count, Pass, Draw, Lose}
use Rattle.ist_core.specs.Elements.{Among}
use Rattle.ist_core.specs.Snapshots.{Snapshot}
use Rattle.ist_core.specs.After.{after}

-- a log: events, the newest first
abbrev pub Log : Type 0
Log = List Event

-- the state after a log that begins at a state: each event is applied to the state before it
abbrev pub state : Snapshot → Log → Snapshot
state first [] = first
state first (event ∷ log) = after (state first log) event

-- the log continues an earlier one: the earlier one is a prefix of it
pub data GoesOn (earlier : Log) : Log → Type 0 where
  same_log : GoesOn earlier earlier
  one_event : {log : Log} (event : Event) → GoesOn earlier log → GoesOn earlier (event ∷ log)

-- P was true of the state at some moment of the log, the first and the last included
abbrev pub Ever : Snapshot → (Snapshot → Type 0) → Log → Type 0
Ever first P [] = P first
Ever first P (event ∷ log) = P (state first (event ∷ log)) ⊎ Ever first P log

-- P is true of some event of the log
abbrev pub Happened : (Event → Type 0) → Log → Type 0
Happened P [] = ⊥
Happened P (event ∷ log) = P event ⊎ Happened P log

-- ---- single events

-- the event reserves a row of this size at the base for the caller
abbrev pub Reserves : ℕ → ℕ → ℕ → Event → Type 0
Reserves caller base size (Reserve c b z) = (c ≡ caller) × (b ≡ base) × (z ≡ size)
Reserves caller base size _ = ⊥

-- the event is an Okay of the change
abbrev pub Okays : ℕ → Event → Type 0
Okays change (Okay c d) = d ≡ change
Okays change _ = ⊥

-- the event takes the change out of its slot
abbrev pub Resolves : ℕ → Event → Type 0
Resolves change (Resolve c d) = d ≡ change
Resolves change _ = ⊥

-- the event counts a change of the caller at the node
abbrev pub Counts : ℕ → ℕ → Event → Type 0
Counts caller node (Count c n) = (c ≡ caller) × (n ≡ node)
Counts caller node _ = ⊥

-- the event passes slot i of the node with the word
abbrev pub Passes : ℕ → ℕ → ℕ → Event → Type 0
Passes node i word (Pass c n j w) = (n ≡ node) × (j ≡ i) × (w ≡ word)
Passes node i word _ = ⊥

-- the event gives the caller a part of the rebuild to build
abbrev pub Draws : ℕ → ℕ → ℕ → Event → Type 0
Draws caller rebuild part (Draw c o p) = (c ≡ caller) × (o ≡ rebuild) × (p ≡ part)
Draws caller rebuild part _ = ⊥

-- the event gives up the held row at the base
abbrev pub Loses : ℕ → Event → Type 0
Loses base (Lose c bases) = Among base bases
Loses base _ = ⊥
