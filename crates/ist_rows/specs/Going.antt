-- A caller in a call, and what is known of one whose token went on.
use Rattle.std.specs.Prelude.{◌≡◌, Some}
use Rattle.ist_core.specs.declared.events.Event.{Event}
use Rattle.ist_rule.specs.declared.view.Pending.{Pending}
use Rattle.ist_rule.specs.Conditions.{IsResolved}
use Rattle.ist_rule.specs.Going.{WentOn}
use Rattle.ist_rows.specs.declared.callers.Caller.{Caller}
use Rattle.ist_rows.specs.Building.{HasRefused}
use Rattle.ist_rows.specs.Rows.{IsCaller}

-- the caller is in a call, in which each change that it installed is resolved
pub record IsQuiet (who : Caller) : Type 0 where
  pub pending : Pending
  pub in_call : who.token.view.pending ≡ Some pending
  pub resolved : IsResolved who.token.view who.number

-- the caller is well-formed and quiet, and each build of which it holds rows was refused
pub record IsReady (who : Caller) : Type 0 where
  pub caller : IsCaller who
  pub refused : HasRefused who
  pub quiet : IsQuiet who

-- the caller's token went on by such events only; the caller has the same number and is still
-- well-formed, and each build of which it holds rows was refused
pub record HasGone (P : Event → Type 0) (old new : Caller) : Type 0 where
  pub caller : IsCaller new
  pub number : new.number ≡ old.number
  pub refused : HasRefused new
  pub went : WentOn P old.token.view new.token.view

-- the caller went on by such events only, and is quiet: it is ready
pub record StaysReady (P : Event → Type 0) (old new : Caller) : Type 0 where
  pub gone : HasGone P old new
  pub quiet : IsQuiet new
