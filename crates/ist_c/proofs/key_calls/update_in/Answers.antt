-- A pass has updated the key, or was refused; a handle of something else is as before.
use Rattle.ist_c.specs.Calls.{none_updates}
use Rattle.ist_c.proofs.CallLemmas.{updated, was_refused}
use Rattle.ist_c.proofs.key_calls.update_in.Goals as goal

pub returns-in-Ok : goal.returns-in-Ok
returns-in-Ok c = let e = c.update.ensures in record {
  updates = updated c.args.held.now c.in-Pass.pass c.update.new.self c.args.key c.args.value
      c.update.result c.in-Ok.reply c.replied.result c.args.short.now c.in-Pass.is c.in-Ok.is
      e.tree e.worked.seen e.updated c.replied.ensures.status c.replied.ensures.reply;
}

pub returns-in-Err : goal.returns-in-Err
returns-in-Err c = let e = c.update.ensures in record {
  updates = was_refused c.args.held.now c.in-Pass.pass c.update.new.self c.args.key c.args.value
      c.update.result c.in-Err.numbers c.refused.result c.args.short.now c.refused.new.shortage
      c.in-Pass.is c.in-Err.is e.tree e.worked.seen e.turned_away c.refused.ensures.status
      c.refused.ensures.numbers;
}

pub returns-in_default : goal.returns-in_default
returns-in_default c = record {
  updates = none_updates c.args.held.now c.args.key c.args.value c.misused.result c.args.short.now
      c.in_default.not-Pass c.misused.ensures.status;
}
