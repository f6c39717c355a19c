-- What is known of a word with which a slot was passed. Serves the linked law.
use Rattle.std.proofs.Common.{Some, ℕ, ◌≢◌, Bool, List, None, ap, refl, ◌+◌, ◌≡◌}
use Rattle.ist_core.specs.declared.events.Event.{Event}
use Rattle.ist_core.specs.declared.events.Event.TheVariants.{Decide, Draw, Finish, Install, Mark, Root}
use Rattle.ist_core.specs.declared.lists.Row.{Row}
use Rattle.ist_core.specs.declared.states.ChangeRow.{ChangeRow}
use Rattle.ist_core.specs.declared.states.InnerRow.{InnerRow}
use Rattle.ist_core.specs.declared.states.RebuildRow.{RebuildRow}
use Rattle.ist_core.specs.LogTerms.{Enabled, EachEnabled, Happened, Log, Passes, state, Snapshot, decision_word}
use Rattle.ist_core.specs.TreeTerms.{CanPass, CanDraw, CanRoot, CanDecide, CanInstall, Starts, CanFinish, CanMark}
use Rattle.ist_core.specs.WordTerms.{ChangeAt, ref_of, Change, Inner, Leaf, Piece, Rebuild, counted, drawn, with_decision, with_root, with_slot, with_status, unset_word, finished_word, marked_word, open_word}
use Rattle.ist_core.proofs.AllLogLemmas.{passed_now, passed_plain}

-- an event that passes a slot is a Pass
pub passing : (first : Snapshot) (log : Log) (event : Event) (node i word : ℕ)
    → Enabled first log event
    → Passes node i word event → (caller : ℕ) × CanPass (state first log) caller node i word
passing = passed_now

-- a passed word is no change
pub passed_no_change : (first : Snapshot) (log : Log) (node i word : ℕ) → EachEnabled first log
    → Happened (Passes node i word) log → (change : ℕ) → ref_of word ≢ Some (ChangeAt change)
passed_no_change first log node i word h p = (passed_plain first log node i word h p).no_change

-- ---- where each change, each rebuild and each status after an event comes from. Serves each conjunct
-- on changes and rebuilds.

-- ---- where rows come from

-- a change was there before, or is installed, or is decided
pub data ChangeComes (first : Snapshot) (log : Log) (base : ℕ) (x : ChangeRow) : Event → Type 0 where
  change_was : {event : Event} → (state first log).pieces base ≡ Some (Change x)
      → ChangeComes first log base x event
  is_installed : {caller : ℕ} {rows : List Row} (h : CanInstall first log caller base rows)
      → x ≡ h.change → ChangeComes first log base x (Install caller base rows)
  is_decided : {caller : ℕ} {said : Bool} (h : CanDecide (state first log) log caller base said)
      → x ≡ record (h.change) { decision = decision_word said }
      → ChangeComes first log base x (Decide caller base said)

-- a rebuild was there before, or is published by its start, or gets its root, or a part of it is
-- drawn
pub data RebuildComes (first : Snapshot) (log : Log) (base : ℕ) (x : RebuildRow) : Event → Type 0 where
  rebuild_was : {event : Event} → (state first log).pieces base ≡ Some (Rebuild x)
      → RebuildComes first log base x event
  is_begun : {caller change : ℕ} {rows : List Row} (h : CanInstall first log caller change rows)
      (s : Starts (state first log) h.change h.fresh) → base ≡ s.rebuild
      → x ≡ record { target = s.target; parent = h.change.node; index = h.change.index; root = unset_word; draw = 0 }
      → RebuildComes first log base x (Install caller change rows)
  is_rooted : {caller word : ℕ} {rows : List Row}
      (h : CanRoot (state first log) caller base word rows)
      → x ≡ record (h.row) { root = word }
      → RebuildComes first log base x (Root caller base word rows)
  is_drawn : {caller part : ℕ} (h : CanDraw (state first log) log caller base part)
      → x ≡ record (h.row) { draw = h.row.draw + 1 }
      → RebuildComes first log base x (Draw caller base part)

-- an inner row had the same status before, or is marked or finished by the event, or is published
-- by it and open
pub data StatusComes (first : Snapshot) (log : Log) (base status : ℕ) : Event → Type 0 where
  status_was : {event : Event} (r : InnerRow) → (state first log).pieces base ≡ Some (Inner r)
      → status ≡ r.status → StatusComes first log base status event
  is_new : {event : Event} → (state first log).pieces base ≡ None → status ≡ open_word
      → StatusComes first log base status event
  marked_now : {caller : ℕ} → CanMark (state first log) log caller base → status ≡ marked_word
      → StatusComes first log base status (Mark caller base)
  finished_now : {caller keys : ℕ} → CanFinish (state first log) log caller base keys
      → status ≡ finished_word keys → StatusComes first log base status (Finish caller base keys)

-- ---- what a row was, of which a row of a kind is made

-- the change of a row makes a change of none but the same change, unless it decides
abbrev pub KeepsChanges : (Piece → Piece) → Type 0
KeepsChanges f = (p : Piece) (x : ChangeRow) → f p ≡ Change x → p ≡ Change x

-- writing a slot leaves changes
pub change-with_slot : (i word : ℕ) → KeepsChanges (with_slot i word)
change-with_slot i word (Change r) x e = e
change-with_slot i word (Leaf r) x e = absurd (cc)
change-with_slot i word (Inner r) x e = absurd (cc)
change-with_slot i word (Rebuild r) x e = absurd (cc)

-- writing a status leaves changes
pub change-with_status : (status : ℕ) → KeepsChanges (with_status status)
change-with_status status (Change r) x e = e
change-with_status status (Leaf r) x e = absurd (cc)
change-with_status status (Inner r) x e = absurd (cc)
change-with_status status (Rebuild r) x e = absurd (cc)

-- counting a change leaves changes
pub change-counted : KeepsChanges counted
change-counted (Change r) x e = e
change-counted (Leaf r) x e = absurd (cc)
change-counted (Inner r) x e = absurd (cc)
change-counted (Rebuild r) x e = absurd (cc)

-- writing a root leaves changes
pub change-with_root : (word : ℕ) → KeepsChanges (with_root word)
change-with_root word (Change r) x e = e
change-with_root word (Leaf r) x e = absurd (cc)
change-with_root word (Inner r) x e = absurd (cc)
change-with_root word (Rebuild r) x e = absurd (cc)

-- drawing a part leaves changes
pub change-drawn : KeepsChanges drawn
change-drawn (Change r) x e = e
change-drawn (Leaf r) x e = absurd (cc)
change-drawn (Inner r) x e = absurd (cc)
change-drawn (Rebuild r) x e = absurd (cc)

-- changing a row this way leaves rebuilds, and makes none of another row
abbrev pub KeepsRebuilds : (Piece → Piece) → Type 0
KeepsRebuilds f = (p : Piece) (x : RebuildRow) → f p ≡ Rebuild x → p ≡ Rebuild x

-- writing a slot leaves rebuilds
pub rebuild-with_slot : (i word : ℕ) → KeepsRebuilds (with_slot i word)
rebuild-with_slot i word (Rebuild r) x e = e
rebuild-with_slot i word (Leaf r) x e = absurd (cc)
rebuild-with_slot i word (Inner r) x e = absurd (cc)
rebuild-with_slot i word (Change r) x e = absurd (cc)

-- writing a status leaves rebuilds
pub rebuild-with_status : (status : ℕ) → KeepsRebuilds (with_status status)
rebuild-with_status status (Rebuild r) x e = e
rebuild-with_status status (Leaf r) x e = absurd (cc)
rebuild-with_status status (Inner r) x e = absurd (cc)
rebuild-with_status status (Change r) x e = absurd (cc)

-- counting a change leaves rebuilds
pub rebuild-counted : KeepsRebuilds counted
rebuild-counted (Rebuild r) x e = e
rebuild-counted (Leaf r) x e = absurd (cc)
rebuild-counted (Inner r) x e = absurd (cc)
rebuild-counted (Change r) x e = absurd (cc)

-- writing a decision leaves rebuilds
pub rebuild-with_decision : (decision : ℕ) → KeepsRebuilds (with_decision decision)
rebuild-with_decision decision (Rebuild r) x e = e
rebuild-with_decision decision (Leaf r) x e = absurd (cc)
rebuild-with_decision decision (Inner r) x e = absurd (cc)
rebuild-with_decision decision (Change r) x e = absurd (cc)

-- one inner row
pub inner_is : (r x : InnerRow) → Inner r ≡ Inner x → x ≡ r
inner_is r x e = cc

-- an inner row after the change of a row was an inner row with the same status before
abbrev pub KeepsStatuses : (Piece → Piece) → Type 0
KeepsStatuses f = (p : Piece) (x : InnerRow) → f p ≡ Inner x → (r : InnerRow) × (p ≡ Inner r) ×
    (x.status ≡ r.status)

-- writing a slot leaves statuses
pub status-with_slot : (i word : ℕ) → KeepsStatuses (with_slot i word)
status-with_slot i word (Inner r) x e = (r, refl, ap (λ y. y.status) (inner_is _ x e))
status-with_slot i word (Leaf r) x e = absurd (cc)
status-with_slot i word (Change r) x e = absurd (cc)
status-with_slot i word (Rebuild r) x e = absurd (cc)

-- counting a change leaves statuses
pub status-counted : KeepsStatuses counted
status-counted (Inner r) x e = (r, refl, ap (λ y. y.status) (inner_is _ x e))
status-counted (Leaf r) x e = absurd (cc)
status-counted (Change r) x e = absurd (cc)
status-counted (Rebuild r) x e = absurd (cc)

-- a status that is set
pub status-with_status : (status : ℕ) (p : Piece) (x : InnerRow) → with_status status p ≡ Inner x
    → x.status ≡ status
status-with_status status (Inner r) x e = ap (λ y. y.status) (inner_is _ x e)
status-with_status status (Leaf r) x e = absurd (cc)
status-with_status status (Change r) x e = absurd (cc)
status-with_status status (Rebuild r) x e = absurd (cc)

-- writing a decision leaves statuses
pub status-with_decision : (decision : ℕ) → KeepsStatuses (with_decision decision)
status-with_decision decision (Inner r) x e = (r, refl, ap (λ y. y.status) (inner_is _ x e))
status-with_decision decision (Leaf r) x e = absurd (cc)
status-with_decision decision (Change r) x e = absurd (cc)
status-with_decision decision (Rebuild r) x e = absurd (cc)

-- writing a root leaves statuses
pub status-with_root : (word : ℕ) → KeepsStatuses (with_root word)
status-with_root word (Inner r) x e = (r, refl, ap (λ y. y.status) (inner_is _ x e))
status-with_root word (Leaf r) x e = absurd (cc)
status-with_root word (Change r) x e = absurd (cc)
status-with_root word (Rebuild r) x e = absurd (cc)

-- drawing a part leaves statuses
pub status-drawn : KeepsStatuses drawn
status-drawn (Inner r) x e = (r, refl, ap (λ y. y.status) (inner_is _ x e))
status-drawn (Leaf r) x e = absurd (cc)
status-drawn (Change r) x e = absurd (cc)
status-drawn (Rebuild r) x e = absurd (cc)
