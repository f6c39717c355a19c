-- An update that should take effect only if the key has a certain value: what each result says of
-- it.
use Rattle.std.specs.Prelude.{◌≡◌, ◌≢◌, ℕ, Option, Some, None}
use Rattle.laws_histories.specs.Searching.{Searched, HasPosition}
use Rattle.ist_rule.specs.declared.view.View.{View}
use Rattle.ist_updates.specs.declared.updates.Due.{Due}
use Rattle.ist_updates.specs.declared.updates.Outcome.{Outcome}
use Rattle.ist_updates.specs.declared.updates.Outcome.TheVariants.{Took, Nothing, Unmet}
use Rattle.ist_updates.specs.declared.updates.When.{When}
use Rattle.ist_updates.specs.declared.updates.When.TheVariants.{Always, Had}

-- the update should take effect if the key has this value
abbrev pub IsMetBy : When → Option ℕ → Type 0
IsMetBy Always had = Unit {0}
IsMetBy (Had value) had = had ≡ value

-- the update shouldn't take effect if the key has this value
abbrev pub IsMissedBy : When → Option ℕ → Type 0
IsMissedBy Always had = ⊥
IsMissedBy (Had value) had = had ≢ value

-- ---- what an outcome says

-- the value that the key had before the update took effect
abbrev pub reply_in : Outcome → Option ℕ
reply_in (Took done) = done.reply
reply_in Nothing = None
reply_in Unmet = None

-- the topmost row that the update made due
abbrev pub due_in : Outcome → Option Due
due_in (Took done) = done.due
due_in Nothing = None
due_in Unmet = None

-- if the update took effect, or found nothing to remove, the key had a value at which it should
abbrev pub IsMetAs : When → Outcome → Type 0
IsMetAs when (Took done) = IsMetBy when done.reply
IsMetAs when Nothing = IsMetBy when None
IsMetAs when Unmet = Unit {0}

-- the same for a walk, which may have to begin again
abbrev pub IsTryMet : When → Option Outcome → Type 0
IsTryMet when (Some outcome) = IsMetAs when outcome
IsTryMet when None = Unit {0}

-- the update replaced this value, or there is no value and there was nothing to remove
abbrev pub RepliesWith : Option ℕ → Option Outcome → Type 0
RepliesWith had (Some (Took done)) = done.reply ≡ had
RepliesWith had (Some Nothing) = had ≡ None
RepliesWith had (Some Unmet) = ⊥
RepliesWith had None = Unit {0}

-- ---- the value at which it took no effect

-- the caller's search, which began when the first view's did, found a value at which the update
-- shouldn't take effect
pub record HasMissed (v w : View) (key : ℕ) (when : When) : Type 0 where
  pub node : ℕ
  pub had : Option ℕ
  pub missed : IsMissedBy when had
  pub searched : Searched w.start w.words w.log key w.loads.since node had
  pub since : w.loads.since ≡ v.loads.since

-- the key had such a value at a position no earlier than the first view and no later than the
-- second
pub record WasMissed (v w : View) (key : ℕ) (when : When) : Type 0 where
  pub had : Option ℕ
  pub missed : IsMissedBy when had
  pub position : HasPosition w.start w.words v.log w.log key had
