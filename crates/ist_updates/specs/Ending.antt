-- What a walk promises, and what a call has by its last walk.
use Rattle.std.specs.Prelude.{◌≡◌, ◌≢◌, ℕ, true, Option, Some, None, Result, Ok, IfOk, IfErr}
use Rattle.ist_core.specs.Standing.{makes_entry}
use Rattle.ist_core.specs.declared.ports.Full.{Full}
use Rattle.ist_rule.specs.declared.view.View.{View}
use Rattle.ist_rule.specs.Conditions.{CanGiveUp}
use Rattle.ist_rule.specs.Going.{SearchedOn}
use Rattle.ist_rows.specs.declared.callers.Caller.{Caller}
use Rattle.ist_rows.specs.Going.{StaysReady}
use Rattle.laws_coming.specs.Further.{CameFurther}
use Rattle.ist_updates.specs.declared.updates.When.{When}
use Rattle.ist_updates.specs.declared.updates.Outcome.{Outcome}
use Rattle.ist_updates.specs.declared.updates.Outcome.TheVariants.{Unmet}
use Rattle.ist_updates.specs.Asking.{command_for, MayEnd, Updates}
use Rattle.ist_updates.specs.Counting.{CountedNowhere, IsCounted, LeavesDue}
use Rattle.ist_updates.specs.Further.{HasWalkedFew, IsFreshNode}
use Rattle.ist_updates.specs.Meeting.{HasMissed, IsMetAs, IsTryMet, WasMissed, due_in, reply_in}
use Rattle.ist_updates.specs.Refusals.{WasRefused}
use Rattle.ist_updates.specs.Walking.{HasWalked}

-- what each result of a walk from the node on means; if the walk must begin again, the table came
-- further
pub record IsWalk (old : Caller) (key : ℕ) (value : Option ℕ) (when : When) (node words : ℕ)
    (result : Result (Option Outcome) Full) (new : Caller) : Type 0 where
  pub on : StaysReady Updates old new
  pub walked : HasWalked old key value node words result new
  pub further : result ≡ Ok None → (first : View) → IsFreshNode first old.token.view node
      → CameFurther first new.token.view
  pub met : IfOk result (IsTryMet when)
  pub missed : result ≡ Ok (Some Unmet) → HasMissed old.token.view new.token.view key when

-- the command took no effect: the call may be given up, and it counted nowhere and brought no row to
-- its limit
pub record HasTakenNone (old new : Caller) : Type 0 where
  pub given_up : CanGiveUp new.token.view
  pub due : LeavesDue old.token.view new.token.view old.number None
  pub nowhere : CountedNowhere old.token.view.log new.token.view.log old.number

-- what the outcome of the last walk means for the whole call: the call may end, and its update was
-- counted if it changed the map; or it met another value
pub record HasDone (old : Caller) (key : ℕ) (value : Option ℕ) (when : When) (outcome : Outcome)
    (new : Caller) : Type 0 where
  pub answered : outcome ≢ Unmet → MayEnd new (command_for key value) (reply_in outcome)
  pub counted : outcome ≢ Unmet → makes_entry (command_for key value) (reply_in outcome) ≡ true
      → let v = old.token.view in IsCounted v.start v.words v.log new.token.view.log old.number
      (command_for key value)
  pub due : LeavesDue old.token.view new.token.view old.number (due_in outcome)
  pub met : IsMetAs when outcome
  pub unmet : outcome ≡ Unmet
      → WasMissed old.token.view new.token.view key when × HasTakenNone old new

-- what each result of the last walk means for the whole call
pub record HasEnded (old : Caller) (key : ℕ) (value : Option ℕ) (when : When) (words : ℕ)
    (result : Result Outcome Full) (new : Caller) : Type 0 where
  pub went : SearchedOn Updates old.token.view new.token.view
  pub few_walks : HasWalkedFew old.token.view new.token.view
  pub done : IfOk result (λ outcome. HasDone old key value when outcome new)
  pub refused : IfErr result (λ full.
      WasRefused old.token.view key value words full new.token.view × HasTakenNone old new)
