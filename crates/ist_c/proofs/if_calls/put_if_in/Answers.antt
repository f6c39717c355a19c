-- A pass has updated the key if it was as expected, or was refused; a handle of something else is as before.
use Rattle.std.proofs.Common.{Some, refl}
use Rattle.ist_c.specs.Conditions.{none_updates_if}
use Rattle.ist_c.proofs.CallLemmas.{updated_if, was_refused_if}
use Rattle.ist_c.proofs.if_calls.put_if_in.Goals as goal

pub returns-in-Ok : goal.returns-in-Ok
returns-in-Ok c = let e = c.put_if.ensures in record {
  updates = updated_if c.args.held.now c.in-Pass.pass _ c.args.key c.args.expected
      (Some c.args.value) c.put_if.result c.in-Ok.reply c.replied.result c.args.short.now
      c.in-Pass.is c.in-Ok.is refl e.run.seen e.answered c.replied.ensures.status
      c.replied.ensures.reply;
}

pub returns-in-Err : goal.returns-in-Err
returns-in-Err c = let e = c.put_if.ensures in record {
  updates = was_refused_if c.args.held.now c.in-Pass.pass _ c.args.key
      c.args.expected (Some c.args.value) c.put_if.result c.in-Err.numbers c.refused.result
      c.args.short.now c.refused.new.shortage c.in-Pass.is c.in-Err.is refl e.run.seen e.turned_away
      c.refused.ensures.status c.refused.ensures.numbers;
}

pub returns-in_default : goal.returns-in_default
returns-in_default c = record {
  updates = none_updates_if c.args.held.now c.args.key c.args.expected (Some c.args.value)
      c.misused.result c.args.short.now c.in_default.not-Pass c.misused.ensures.status;
}
