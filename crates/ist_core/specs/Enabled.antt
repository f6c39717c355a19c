-- Which event may come next: the enabling condition, by cases on the event.
use Rattle.std.specs.Prelude.{◌≡◌, ℕ, ◌+◌, ◌-◌, ◌^◌, ◌<◌, ◌≤◌, [], ◌∷◌, ◌++◌}
use Rattle.ist_core.specs.declared.events.Event.{Event}
use Rattle.ist_core.specs.declared.events.Event.TheVariants.{Enter, Reserve, Install, Okay, Decide, Resolve, Count, Mark, Pass, Finish, Root, Draw, Place, Lose}
use Rattle.ist_core.specs.Snapshots.{Snapshot, sizes_held}
use Rattle.ist_core.specs.Logs.{Log, state}
use Rattle.ist_core.specs.Fairness.{IsFair}
use Rattle.ist_core.specs.Installing.{CanInstall}
use Rattle.ist_core.specs.Deciding.{CanOkay, CanDecide, CanResolve, CanCount}
use Rattle.ist_core.specs.Marking.{CanMark, CanPass, CanFinish}
use Rattle.ist_core.specs.Building.{CanRoot, CanDraw, CanPlace, CanLose}

-- callers have numbers below this one
abbrev pub caller_limit : ℕ
caller_limit = 2 ^ 32 - 1

-- a caller may enter: its number is how many entered before it
pub record CanEnter (t : Snapshot) (caller : ℕ) : Type 0 where
  pub number : caller ≡ t.callers
  pub below_limit : caller < caller_limit

-- a row may be reserved: it begins at the first free word, it fits, and what the caller then holds
-- is fair
pub record CanReserve (t : Snapshot) (caller base size : ℕ) : Type 0 where
  pub known : caller < t.callers
  pub base_is : base ≡ t.next
  pub room : t.next + size ≤ t.words
  pub fair : IsFair t (sizes_held t caller ++ size ∷ [])

-- the event may come next after the log: its condition holds in the state after the log
abbrev pub Enabled : Snapshot → Log → Event → Type 0
Enabled first log (Enter caller) = CanEnter (state first log) caller
Enabled first log (Reserve caller base size) = CanReserve (state first log) caller base size
Enabled first log (Install caller change rows) = CanInstall first log caller change rows
Enabled first log (Okay caller change) = CanOkay (state first log) caller change
Enabled first log (Decide caller change said) = CanDecide (state first log) log caller change said
Enabled first log (Resolve caller change) = CanResolve (state first log) caller change
Enabled first log (Count caller node) = CanCount first log caller node
Enabled first log (Mark caller node) = CanMark (state first log) log caller node
Enabled first log (Pass caller node i word) = CanPass (state first log) caller node i word
Enabled first log (Finish caller node keys) = CanFinish (state first log) log caller node keys
Enabled first log (Root caller rebuild word rows) = CanRoot (state first log) caller rebuild word rows
Enabled first log (Draw caller rebuild part) = CanDraw (state first log) log caller rebuild part
Enabled first log (Place caller rebuild part word rows) = CanPlace (state first log) caller rebuild part word rows
Enabled first log (Lose caller bases) = CanLose (state first log) log caller bases
