-- An owner's handle holds what closing left; a handle of something else is as before.
use Rattle.std.proofs.Common.{sym, ◌∙◌}
use Rattle.ist_c.proofs.PassLemmas.{closed_owner, closed_busy, closed_again, closed_other}
use Rattle.ist_c.proofs.close_calls.close_in.Goals as goal

pub returns-in-Ok : goal.returns-in-Ok
returns-in-Ok c = record {
  closes = closed_owner c.args.held.now c.leave.new.held c.in-Owner.owner c.close.result c.in-Ok.closed
      c.leave.result (sym c.replace.ensures.value ∙ c.in-Owner.is) c.in-Ok.is c.close.ensures.closes
      c.leave.ensures.leaves;
}

pub returns-in-Err : goal.returns-in-Err
returns-in-Err c = record {
  closes = closed_busy c.args.held.now c.in-Owner.owner c.in-Err.owner c.close.result
      (sym c.replace.ensures.value ∙ c.in-Owner.is) c.in-Err.is c.close.ensures.same;
}

pub returns-in-Closed : goal.returns-in-Closed
returns-in-Closed c = record {
  closes = closed_again c.args.held.now c.leave-in-Closed.new.held c.in-Closed.closed c.leave-in-Closed.result
      (sym c.replace.ensures.value ∙ c.in-Closed.is) c.leave-in-Closed.ensures.leaves;
}

pub returns-in_default : goal.returns-in_default
returns-in_default c = record {
  closes = closed_other c.args.held.now c.replace.result c.replace.ensures.value c.in_default.not-Owner
      c.in_default.not-Closed;
}
