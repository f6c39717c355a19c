-- Starting a rebuild: when a caller may, and what becomes of it.
use Rattle.std.specs.Prelude.{◌≡◌, ◌≢◌, ℕ, ◌⊎◌, Result, Ok, Err, Some}
use Rattle.ist_core.specs.declared.ports.Full.{Full}
use Rattle.ist_core.specs.declared.states.ChangeRow.{ChangeRow}
use Rattle.ist_core.specs.declared.states.InnerRow.{InnerRow}
use Rattle.ist_core.specs.declared.states.RebuildRow.{RebuildRow}
use Rattle.ist_core.specs.Lawful.{state_of}
use Rattle.ist_core.specs.Links.{WasLinked}
use Rattle.ist_core.specs.Logs.{Log, GoesOn}
use Rattle.ist_core.specs.Pieces.{Inner, Change, Rebuild}
use Rattle.ist_core.specs.Rebuilding.{IsDue, IsStarted}
use Rattle.ist_core.specs.References.{InnerAt, RebuildAt, ref_of, word_of}
use Rattle.ist_core.specs.RowLayout.{anchor, change_words, rebuild_words}
use Rattle.ist_core.specs.Slots.{SlotHolds}
use Rattle.ist_core.specs.Snapshots.{Snapshot}
use Rattle.ist_core.specs.StartLayout.{start}
use Rattle.ist_core.specs.Statuses.{start_kind, decided_yes}
use Rattle.ist_build.specs.Laying.{IsReservation}
use Rattle.ist_rule.specs.declared.view.View.{View}
use Rattle.ist_rule.specs.Going.{WentOn}
use Rattle.ist_rule.specs.Learning.{now}
use Rattle.laws_calls.specs.Settling.{IsDoneStart}
use Rattle.ist_rebuild.specs.declared.answers.Started.{Started}
use Rattle.ist_rebuild.specs.declared.answers.Started.TheVariants.{Yes, Other, Marked}
use Rattle.ist_rebuild.specs.Going.{Begins}
use Rattle.ist_rebuild.specs.Needs.{TakesNeeded}
use Rattle.ist_rows.specs.declared.callers.Caller.{Caller}
use Rattle.ist_rows.specs.Shortage.{RanShort}

-- ---- when

-- the caller has seen the target in this slot of the parent, which was linked; and the target is
-- due, or the parent is the anchor
pub record MayStart (v : View) (parent index target : ℕ) : Type 0 where
  pub prefix : Log
  pub goes_on : GoesOn prefix v.log
  pub stood : SlotHolds (state_of v.start v.words prefix) parent index (word_of (InnerAt target))
  pub linked : WasLinked (start v.start v.words) v.log parent
  pub row : InnerRow
  pub published : (now v).pieces target ≡ Some (Inner row)
  pub due : IsDue row ⊎ (parent ≡ anchor)

-- ---- what becomes of it

-- the rebuild is a started one of this target, in this slot of the parent
pub record IsStartedAt (t : Snapshot) (rebuild parent index target : ℕ) : Type 0 where
  pub row : RebuildRow
  pub published : t.pieces rebuild ≡ Some (Rebuild row)
  pub target_is : row.target ≡ target
  pub parent_is : row.parent ≡ parent
  pub index_is : row.index ≡ index
  pub started : IsStarted t rebuild

-- the slot held this word, and not the target, when the start was about to be installed
pub record StoodInstead (w : View) (parent index target word : ℕ) : Type 0 where
  pub holds : SlotHolds (now w) parent index word
  pub differs : word ≢ word_of (InnerAt target)

-- each start of the caller that was decided yes is done, or was decided yes in the first state
-- already
abbrev pub StartsDoneSince : Snapshot → Snapshot → ℕ → Type 0
StartsDoneSince first t caller =
    (base : ℕ) (change : ChangeRow) → t.pieces base ≡ Some (Change change)
    → change.owner ≡ caller → change.kind ≡ start_kind → change.decision ≡ decided_yes
    → (rebuild : ℕ) → ref_of change.to ≡ Some (RebuildAt rebuild)
    → (first.pieces base ≡ Some (Change change)) ⊎ IsDoneStart t change rebuild

-- the same, except for the start of this rebuild
abbrev pub StartsDoneBut : Snapshot → Snapshot → ℕ → ℕ → Type 0
StartsDoneBut first t caller but =
    (base : ℕ) (change : ChangeRow) → t.pieces base ≡ Some (Change change)
    → change.owner ≡ caller → change.kind ≡ start_kind → change.decision ≡ decided_yes
    → (rebuild : ℕ) → ref_of change.to ≡ Some (RebuildAt rebuild)
    → (rebuild ≡ but) ⊎ ((first.pieces base ≡ Some (Change change)) ⊎ IsDoneStart t change rebuild)

-- if a rebuild was started, all other starts of the caller since the first state are done; if none
-- was, all are
abbrev pub LeavesDone : Snapshot → Snapshot → ℕ → Result Started Full → Type 0
LeavesDone first t caller (Ok (Yes rebuild)) = StartsDoneBut first t caller rebuild
LeavesDone first t caller (Ok (Other word)) = StartsDoneSince first t caller
LeavesDone first t caller (Ok Marked) = StartsDoneSince first t caller
LeavesDone first t caller (Err full) = StartsDoneSince first t caller

-- ---- what it leaves undone

-- the caller has started no rebuild between: each start of it that was decided yes was so already
abbrev pub StartsNone : Snapshot → Snapshot → ℕ → Type 0
StartsNone t u caller =
    (base : ℕ) (change : ChangeRow) → u.pieces base ≡ Some (Change change)
    → change.owner ≡ caller → change.kind ≡ start_kind → change.decision ≡ decided_yes
    → t.pieces base ≡ Some (Change change)

-- unless a rebuild is returned, none was started
abbrev pub LeavesUnstarted : Snapshot → Snapshot → ℕ → Result Started Full → Type 0
LeavesUnstarted t u caller (Ok (Yes rebuild)) = Unit {0}
LeavesUnstarted t u caller (Ok (Other word)) = StartsNone t u caller
LeavesUnstarted t u caller (Ok Marked) = StartsNone t u caller
LeavesUnstarted t u caller (Err full) = StartsNone t u caller

-- the caller has only made reservings, and took no more words than rows have that a start needs and
-- that it holds since
pub record ReservesNeeded (old new : Caller) : Type 0 where
  pub went : WentOn IsReservation old.token.view new.token.view
  pub few : TakesNeeded old new

-- if the slot held another word, or a row was refused, nothing was installed
abbrev pub LeavesUninstalled : Caller → Caller → Result Started Full → Type 0
LeavesUninstalled old new (Ok (Yes rebuild)) = Unit {0}
LeavesUninstalled old new (Ok (Other word)) = ReservesNeeded old new
LeavesUninstalled old new (Ok Marked) = Unit {0}
LeavesUninstalled old new (Err full) = ReservesNeeded old new

-- ---- too few words

-- a start asks for this many words at a time: for the row of the rebuild, or of the change
abbrev pub IsForStart : ℕ → Type 0
IsForStart asked = (asked ≡ rebuild_words) ⊎ (asked ≡ change_words)

-- too few words were left for such a row
abbrev pub IsStartRefused : View → ℕ → Full → View → Type 0
IsStartRefused v words full w = RanShort (WentOn Begins) IsForStart v words full w
