-- What a change of a slot and a try promise, for each of their results.
use Rattle.std.specs.Prelude.{◌≡◌, ℕ, Bool, true, false, Option, Some, None, Result, Ok, IfOk, IfErr}
use Rattle.ist_core.specs.declared.commands.Command.{Command}
use Rattle.ist_core.specs.declared.ports.Full.{Full}
use Rattle.ist_core.specs.Changes.{command_of, reply_of, value_at}
use Rattle.ist_core.specs.References.{ref_of}
use Rattle.ist_rule.specs.declared.view.View.{View}
use Rattle.ist_rule.specs.Learning.{now}
use Rattle.ist_rows.specs.declared.callers.Caller.{Caller}
use Rattle.ist_rows.specs.Going.{StaysReady}
use Rattle.laws_coming.specs.Further.{CameFurther}
use Rattle.ist_updates.specs.declared.plans.Aim.{Aim}
use Rattle.ist_updates.specs.declared.plans.PlannedChange.{PlannedChange}
use Rattle.ist_updates.specs.declared.plans.SlotPlan.{SlotPlan}
use Rattle.ist_updates.specs.declared.updates.Outcome.{Outcome}
use Rattle.ist_updates.specs.declared.updates.Outcome.TheVariants.{Took, Nothing, Unmet}
use Rattle.ist_updates.specs.Asking.{command_for, IsAsked}
use Rattle.ist_updates.specs.Changing.{command_by, MayAskFor, IsRowShort}
use Rattle.ist_updates.specs.Further.{HasAimed}
use Rattle.ist_updates.specs.Refusals.{IsUpdateRefused}
use Rattle.ist_updates.specs.Trying.{Tries, BeganSince, HasFoundNone, HasTakenEffect}

-- ---- a change of a slot

-- what each result of carrying out a plan means: its command took effect, or the caller is still
-- asked and the table came further
pub record HasCarried (old : Caller) (plan : PlannedChange) (taken : Bool) (new : Caller) : Type 0 where
  pub on : StaysReady Tries old new
  pub took : taken ≡ true → (command : Command) → command_of plan.row ≡ Some command
      → HasTakenEffect old.token.view new.token.view old.number command plan.row.node
      (reply_of (now old.token.view).pieces plan.row)
  pub lost : taken ≡ false → (command : Command) → IsAsked old command → IsAsked new command
  pub further : taken ≡ false → (first : View)
      → HasAimed first old.token.view plan.row.node plan.row.index plan.row.from
      → CameFurther first new.token.view

-- what each result of a change of the slot means: it took effect, or it was lost and the table came
-- further, or the table had too few words for a row of it
pub record HasChanged (old : Caller) (aim : Aim) (w : SlotPlan) (words : ℕ) (result : Result Bool Full)
    (new : Caller) : Type 0 where
  pub on : StaysReady Tries old new
  pub took : result ≡ Ok true → let v = old.token.view in
      HasTakenEffect v new.token.view old.number (command_by aim.key w) aim.node
      (value_at (now v).pieces (ref_of aim.word) aim.key)
  pub lost : result ≡ Ok false → IsAsked new (command_by aim.key w)
  pub further : result ≡ Ok false → (first : View)
      → HasAimed first old.token.view aim.node aim.index aim.word → CameFurther first new.token.view
  pub still : IfErr result (λ full. IsAsked new (command_by aim.key w))
  pub full : IfErr result (λ full.
      IsRowShort (MayAskFor w) old.token.view words full new.token.view)

-- ---- a try

-- the update took effect with this reply, and was counted at no row yet
abbrev pub just_took : Option ℕ → Outcome
just_took reply = Took record { reply = reply; due = None }

-- the update took effect, or there was nothing to remove, or the caller is still asked
abbrev pub IsTried : Caller → ℕ → Option ℕ → ℕ → Caller → Option Outcome → Type 0
IsTried old key value node new (Some (Took done)) =
    HasTakenEffect old.token.view new.token.view old.number (command_for key value) node done.reply
    × (done ≡ record { reply = done.reply; due = None })
IsTried old key value node new (Some Nothing) =
    (value ≡ None) × HasFoundNone new.token.view key × IsAsked new (command_for key value)
    × (new.token.view.loads.since ≡ old.token.view.loads.since)
IsTried old key value node new None = IsAsked new (command_for key value)
IsTried old key value node new (Some Unmet) = IsAsked new (command_for key value)

-- the table had too few words: the caller is still asked, and its update is refused, counted from any
-- view since which its search began
pub record IsTryRefused (old : Caller) (key : ℕ) (value : Option ℕ) (words : ℕ) (full : Full)
    (new : Caller) : Type 0 where
  pub still : IsAsked new (command_for key value)
  pub cause : (first : View) → BeganSince first old.token.view
      → IsUpdateRefused first key value words full new.token.view

-- what each result of a try at the slot means; if the walk must begin again, the table came further
pub record HasTried (old : Caller) (aim : Aim) (value : Option ℕ) (words : ℕ)
    (result : Result (Option Outcome) Full) (new : Caller) : Type 0 where
  pub on : StaysReady Tries old new
  pub told : IfOk result (λ tried. IsTried old aim.key value aim.node new tried)
  pub full : IfErr result (λ full. IsTryRefused old aim.key value words full new)
  pub further : result ≡ Ok None → (first : View)
      → HasAimed first old.token.view aim.node aim.index aim.word → CameFurther first new.token.view
