-- What the functions inside this crate promise each other: a caller in its call, the rebuild of a
-- row that reached its limit, and an update from its beginning to its end.
use Rattle.std.specs.Prelude.{◌≡◌, ◌⊎◌, ℕ, Bool, true, Option, Some, None}
use Rattle.ist_core.specs.declared.commands.Command.{Command}
use Rattle.ist_core.specs.declared.events.Event.{Event}
use Rattle.ist_core.specs.declared.events.Event.TheVariants.{Enter, Install, Count}
use Rattle.ist_core.specs.declared.ports.Full.{Full}
use Rattle.ist_core.specs.declared.states.ChangeRow.{ChangeRow}
use Rattle.ist_core.specs.declared.states.RebuildRow.{RebuildRow}
use Rattle.ist_core.specs.Lawful.{state_of}
use Rattle.ist_core.specs.Links.{IsChild, WasOnChain}
use Rattle.ist_core.specs.Logs.{Ever, Happened, Resolves}
use Rattle.ist_core.specs.Marking.{HasTarget}
use Rattle.ist_core.specs.Pieces.{Rebuild}
use Rattle.ist_core.specs.Rebuilding.{IsReplaced, IsStarted, IsUpdate}
use Rattle.ist_core.specs.References.{ChangeAt, RebuildAt, Ref, ref_of}
use Rattle.ist_core.specs.Slots.{IsOpen}
use Rattle.ist_core.specs.Snapshots.{Snapshot}
use Rattle.ist_core.specs.Standing.{makes_entry}
use Rattle.ist_core.specs.StartLayout.{start}
use Rattle.ist_core.specs.Writing.{first_change}
use Rattle.ist_rule.specs.declared.view.View.{View}
use Rattle.ist_rule.specs.Conditions.{CanGiveUp}
use Rattle.ist_rule.specs.Going.{SearchedOn}
use Rattle.ist_rule.specs.Learning.{now}
use Rattle.ist_rows.specs.declared.callers.Caller.{Caller}
use Rattle.ist_rows.specs.Building.{HasRefused}
use Rattle.ist_rows.specs.Rows.{IsCaller}
use Rattle.laws_calls.specs.Settling.{DueRowsAreClosed}
use Rattle.ist_build.specs.Calls.{IsBuildable}
use Rattle.ist_rows.specs.Going.{IsQuiet, IsReady}
use Rattle.ist_rebuild.specs.Helping.{IsAskedFor}
use Rattle.ist_rebuild.specs.Lacking.{LacksNow}
use Rattle.ist_rebuild.specs.Starting.{IsForStart, StartsDoneSince, StartsNone}
use Rattle.ist_updates.specs.declared.updates.Due.{Due}
use Rattle.ist_updates.specs.Asking.{MayEnd, Updates}
use Rattle.ist_updates.specs.Counting.{CountedNowhere, IsCounted, CameToLimit, LeavesDue}
use Rattle.ist_updates.specs.Further.{HasWalkedFew}
use Rattle.ist_tree.specs.declared.rebuilding.Instead.{Instead}
use Rattle.ist_tree.specs.declared.rebuilding.Instead.TheVariants.{Rebuild, Change, Other}
use Rattle.ist_tree.specs.DueRows.{InstallsDue}
use Rattle.ist_rows.specs.Shortage.{LeavesTooFew}

-- ---- how a caller goes on

-- the event is a step of starting or helping a rebuild: no Enter, no Count, and no put or remove is
-- installed
abbrev pub Rebuilds : Event → Type 0
Rebuilds (Enter caller) = ⊥
Rebuilds (Install caller base rows) =
    (change : ChangeRow) → first_change rows ≡ Some change → ¬ (IsUpdate change.kind)
Rebuilds (Count caller node) = ⊥
Rebuilds _ = Unit {0}

-- the event is a step of a call: no Enter
abbrev pub Works : Event → Type 0
Works (Enter caller) = ⊥
Works _ = Unit {0}

-- if all starts of the caller since a state were done, all since that state still are
abbrev pub KeepsDone : Caller → Caller → Type 0
KeepsDone old new = (first : Snapshot) → StartsDoneSince first (now old.token.view) old.number
    → StartsDoneSince first (now new.token.view) old.number

-- each start that the caller installed meanwhile was of a row that was due
abbrev pub StartsDue : Caller → Caller → Type 0
StartsDue old new =
    let v = old.token.view in
    InstallsDue v.start v.words v.log new.token.view.log old.number

-- ---- the rebuild of a row that reached its limit

-- the row or its parent isn't open
abbrev pub IsShut : Snapshot → ℕ → ℕ → Type 0
IsShut t parent target = (¬ (IsOpen t target)) ⊎ ¬ (IsOpen t parent)

-- if an attempt to rebuild was the last, the row or its parent isn't open
abbrev pub IsLastFor : Bool → Snapshot → ℕ → ℕ → Type 0
IsLastFor last t parent target = last ≡ true → IsShut t parent target

-- what a reference names instead of a row: a rebuild, a change or neither
abbrev pub instead_of : Option Ref → Instead
instead_of (Some (RebuildAt base)) = Rebuild base
instead_of (Some (ChangeAt base)) = Change base
instead_of _ = Other

-- what the word named was helped: a change is out of its slot, and the target of a rebuild is
-- finished
pub record IsHelpedWord (w : View) (word : ℕ) : Type 0 where
  pub change : (base : ℕ) → ref_of word ≡ Some (ChangeAt base) → Happened (Resolves base) w.log
  pub rebuild : (base : ℕ) → ref_of word ≡ Some (RebuildAt base) → IsBuildable (now w) base

-- the rebuild was started in the slot in which the due row was
pub record IsInDueSlot (t : Snapshot) (rebuild : ℕ) (due : Due) : Type 0 where
  pub site : RebuildRow
  pub published : t.pieces rebuild ≡ Some (Rebuild site)
  pub parent_is : site.parent ≡ due.parent
  pub index_is : site.index ≡ due.index

-- this many words were asked for to rebuild the due row: for its start, for a row that the caller
-- lacks; for helping a rebuild of it; or for helping another rebuild in its slot, which hadn't been
-- replaced in the earlier state
pub data IsAskedToRebuild (s : Snapshot) (w : View) (due : Due) (asked : ℕ) : Type 0 where
  for_start : IsForStart asked → LacksNow w asked → IsAskedToRebuild s w due asked
  for_own : (rebuild : ℕ) → IsStarted (now w) rebuild → HasTarget (now w) rebuild due.target
      → IsAskedFor (LacksNow w) (now w) rebuild asked → IsAskedToRebuild s w due asked
  for_other : (rebuild : ℕ) → IsStarted (now w) rebuild → ¬ (IsReplaced s rebuild)
      → IsInDueSlot (now w) rebuild due → IsAskedFor (LacksNow w) (now w) rebuild asked
      → IsAskedToRebuild s w due asked

-- the rebuild of the due row was refused because too few words were left
abbrev pub IsDueRefused : Snapshot → View → Due → ℕ → Full → Type 0
IsDueRefused s w due words full =
    LeavesTooFew (IsAskedToRebuild s w due) w.start words w.log full

-- ---- an update

-- of the rows that reached their limits by the caller's counts since, the topmost isn't open, or
-- its parent isn't
pub record IsTopShut (v w : View) (number row : ℕ) : Type 0 where
  pub came : CameToLimit v.start v.words v.log w.log number row
  pub top : (other : ℕ) → CameToLimit v.start v.words v.log w.log number other
      → WasOnChain (start v.start v.words) w.log other row
  pub parent : ℕ
  pub index : ℕ
  pub was_child : Ever (start v.start v.words) (λ t. IsChild t parent index row) w.log
  pub shut : IsShut (state_of v.start v.words w.log) parent row

-- of the rows that reached their limits by the caller's counts since, this is the topmost
pub record IsTopCame (v w : View) (number row : ℕ) : Type 0 where
  pub came : CameToLimit v.start v.words v.log w.log number row
  pub top : (other : ℕ) → CameToLimit v.start v.words v.log w.log number other
      → WasOnChain (start v.start v.words) w.log other row

-- what became of the rows that reached their limits: there were none, the topmost or its parent
-- isn't open, or its rebuild was refused with this `Full`
pub data LeavesShut (v w : View) (number words : ℕ) : Option Full → Type 0 where
  none_came : ((row : ℕ) → ¬ (CameToLimit v.start v.words v.log w.log number row))
      → LeavesShut v w number words None
  is_shut : (row : ℕ) → IsTopShut v w number row → LeavesShut v w number words None
  was_refused : (full : Full) (due : Due) → IsTopCame v w number due.target
      → Ever (start v.start v.words) (λ t. IsChild t due.parent due.index due.target) w.log
      → IsDueRefused (now v) w due words full → LeavesShut v w number words (Some full)

-- the caller's update took effect, or found nothing to remove, with this reply; its counts brought
-- this row to its limit, if one is named, and it was counted at each row of its chain
pub record Applies (old new : Caller) (command : Command) (reply : Option ℕ) (of : Option Due)
    : Type 0 where
  pub caller : IsCaller new
  pub refused : HasRefused new
  pub quiet : IsQuiet new
  pub number : new.number ≡ old.number
  pub went : SearchedOn Updates old.token.view new.token.view
  pub few_walks : HasWalkedFew old.token.view new.token.view
  pub may : MayEnd new command reply
  pub counted : let v = old.token.view in makes_entry command reply ≡ true
      → IsCounted v.start v.words v.log new.token.view.log old.number command
  pub due : LeavesDue old.token.view new.token.view old.number of

-- the caller carried out the command with this reply, and met this refusal of the rebuild after it
pub record CarriesOut (old new : Caller) (words : ℕ) (command : Command) (reply : Option ℕ)
    (refused : Option Full) : Type 0 where
  pub ready : IsReady new
  pub number : new.number ≡ old.number
  pub went : SearchedOn Works old.token.view new.token.view
  pub few_walks : HasWalkedFew old.token.view new.token.view
  pub may : MayEnd new command reply
  pub counted : let v = old.token.view in makes_entry command reply ≡ true
      → IsCounted v.start v.words v.log new.token.view.log old.number command
  pub shut : LeavesShut old.token.view new.token.view old.number words refused
  pub starts : refused ≡ None → KeepsDone old new
  pub due : let v = old.token.view in refused ≡ None
      → DueRowsAreClosed (start v.start v.words) v.log old.number
      → DueRowsAreClosed (start v.start v.words) new.token.view.log old.number

-- the caller's call had no effect on the map and started no rebuild, and may be given up
pub record IsLetGo (old new : Caller) : Type 0 where
  pub caller : IsCaller new
  pub refused : HasRefused new
  pub number : new.number ≡ old.number
  pub went : SearchedOn Works old.token.view new.token.view
  pub few_walks : HasWalkedFew old.token.view new.token.view
  pub can : CanGiveUp new.token.view
  pub none_came : LeavesDue old.token.view new.token.view old.number None
  pub uncounted : CountedNowhere old.token.view.log new.token.view.log old.number
  pub unstarted : StartsNone (now old.token.view) (now new.token.view) old.number
  pub starts : KeepsDone old new
  pub due : let v = old.token.view in DueRowsAreClosed (start v.start v.words) v.log old.number
      → DueRowsAreClosed (start v.start v.words) new.token.view.log old.number
