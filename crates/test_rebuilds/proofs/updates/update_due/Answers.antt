use Rattle.std.proofs.Common.{subst, sym, rules}
use Rattle.ist_updates.specs.Counting.{LeavesDue}
use Rattle.test_rebuilds.proofs.UpdateLemmas.{made_due}
use Rattle.test_rebuilds.proofs.updates.update_due.Goals as goal

-- the row that it made due may be rebuilt
pub returns-in-Ok : goal.returns-in-Ok
returns-in-Ok c = let done = c.in-Ok.ensures in record {
  due = made_due c.ask.new.who c.apply.new.who c.args.table.now c.due.result done.caller done.refused
      done.quiet
      (subst (LeavesDue c.ask.new.who.token.view c.apply.new.who.token.view c.ask.new.who.number)
      (sym c.due.ensures.value) done.due) (search rules);
}
