-- What the functions inside this crate promise each other of a start: its rows, how they are
-- filled, and that it may be installed.
use Rattle.std.specs.Prelude.{◌≡◌, ℕ, [], ◌∷◌, Some, Result, Ok}
use Rattle.ist_core.specs.declared.ports.Full.{Full}
use Rattle.ist_build.specs.Laying.{IsReservation}
use Rattle.ist_core.specs.declared.states.ChangeRow.{ChangeRow}
use Rattle.ist_core.specs.Installing.{new_rebuild}
use Rattle.ist_core.specs.Pieces.{Change, row_at, words_of}
use Rattle.ist_core.specs.References.{InnerAt, RebuildAt, word_of}
use Rattle.ist_core.specs.Slots.{IsOpen}
use Rattle.ist_core.specs.Snapshots.{Snapshot}
use Rattle.ist_core.specs.Statuses.{undecided, start_kind}
use Rattle.ist_rule.specs.Going.{WentOn}
use Rattle.ist_rule.specs.Learning.{now}
use Rattle.ist_rows.specs.declared.callers.Caller.{Caller}
use Rattle.ist_rows.specs.Filling.{filled_with}
use Rattle.ist_rows.specs.Rows.{IsCaller}
use Rattle.ist_dcss.specs.Installing.{Filling, IsInstallable}
use Rattle.ist_rows.specs.Building.{HasRefused}
use Rattle.ist_rows.specs.Going.{IsQuiet}
use Rattle.ist_rebuild.specs.declared.answers.Started.{Started}
use Rattle.ist_rebuild.specs.declared.answers.Started.TheVariants.{Yes, Other, Marked}
use Rattle.ist_rebuild.specs.Going.{Begins, KeepsFresh, StartsAt}
use Rattle.ist_rebuild.specs.Starting.{IsStartedAt, LeavesDone, StartsDoneSince, StoodInstead, LeavesUninstalled, LeavesUnstarted}
use Rattle.ist_rebuild.specs.Needs.{TakesNeeded}

-- ---- the rows

-- the caller holds these rows for a start: one for the rebuild and one for the change
pub record HasStartRows (who : Caller) (rebuild change : ℕ) : Type 0 where
  pub rebuild_is : who.rebuild ≡ Some rebuild
  pub change_is : who.change ≡ Some change

-- the start's change, as the caller with this number fills it
abbrev pub start_change : ℕ → ℕ → ℕ → ℕ → ℕ → ChangeRow
start_change number parent index target rebuild =
    record {
      decision = undecided;
      kind = start_kind;
      node = parent;
      index = index;
      from = word_of (InnerAt target);
      to = word_of (RebuildAt rebuild);
      owner = number;
      key = 0;
      value = 0;
    }

-- that change with the rebuild's row
abbrev pub start_filling : ℕ → ℕ → ℕ → ℕ → ℕ → Filling
start_filling number parent index target rebuild =
    let change = start_change number parent index target rebuild in
    record { change = change; fresh = row_at rebuild (new_rebuild change target) ∷ [] }

-- ---- filling

-- the caller that has filled the rows of a start
abbrev pub filled_start : Caller → ℕ → ℕ → ℕ → ℕ → ℕ → Caller
filled_start who rebuild change parent index target =
    let row = start_change who.number parent index target rebuild in
    filled_with (filled_with who rebuild (words_of (new_rebuild row target))) change
    (words_of (Change row))

-- ---- the install

-- the caller may install the change and help it: it holds the two rows that are installed, and all
-- of its changes are resolved
pub record IsStartReady (who : Caller) (rebuild change : ℕ) (f : Filling) : Type 0 where
  pub caller : IsCaller who
  pub rows : HasStartRows who rebuild change
  pub quiet : IsQuiet who
  pub may_install : IsInstallable who.token.view change f

-- ---- how it went

-- the caller made at most reservings, of rows that a start needs: it has the number, the leaf and the
-- pair row that it had, is quiet, and each of its builds that was refused still is
pub record HasReserved (old new : Caller) : Type 0 where
  pub caller : IsCaller new
  pub number : new.number ≡ old.number
  pub fresh : KeepsFresh old new
  pub quiet : IsQuiet new
  pub refused : HasRefused old → HasRefused new
  pub went : WentOn IsReservation old.token.view new.token.view
  pub few : TakesNeeded old new

-- the caller made only steps of a start of this target; otherwise as with reservings
pub record HasBegun (target : ℕ) (old new : Caller) : Type 0 where
  pub caller : IsCaller new
  pub number : new.number ≡ old.number
  pub fresh : KeepsFresh old new
  pub went : WentOn Begins old.token.view new.token.view
  pub aims : WentOn (StartsAt target) old.token.view new.token.view
  pub quiet : IsQuiet new
  pub refused : HasRefused old → HasRefused new

-- what the result of a start tells of this slot of the parent, and of the caller's starts
pub record TellsStart (old new : Caller) (parent index target : ℕ)
    (answer : Result Started Full) : Type 0 where
  pub yes : (rebuild : ℕ) → answer ≡ Ok (Yes rebuild)
      → IsStartedAt (now new.token.view) rebuild parent index target
  pub other : (word : ℕ) → answer ≡ Ok (Other word)
      → StoodInstead new.token.view parent index target word
  pub marked : answer ≡ Ok Marked → ¬ (IsOpen (now new.token.view) parent)
  pub done : (first : Snapshot) → StartsDoneSince first (now old.token.view) old.number
      → LeavesDone first (now new.token.view) old.number answer
  pub unstarted : LeavesUnstarted (now old.token.view) (now new.token.view) old.number answer
  pub uninstalled : LeavesUninstalled old new answer
