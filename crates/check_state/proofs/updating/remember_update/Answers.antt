-- The map is right after each kind of event.
use Rattle.std.proofs.lemmas.Result.{on_ok_weaker}
use Rattle.check_state.proofs.EventLemmas.{yes_renews, count_adds, no_leaves, others_leave}
use Rattle.check_state.proofs.updating.remember_update.Goals as goal

pub returns-then-not-yes : goal.returns-then-not-yes
returns-then-not-yes c = record {
  exact = no_leaves c.args.replica.now c.args.event.now c.args.updates.now
      c.in-Decide.caller c.in-Decide.change c.in-Decide.yes c.in-Decide.is c.if-not-yes.true;
}

pub returns-else-not-yes : goal.returns-else-not-yes
returns-else-not-yes c = record {
  exact = on_ok_weaker c.note_update.result
      (yes_renews c.args.replica.now c.args.event.now c.args.updates.now
      c.note_update.new.updates c.in-Decide.caller c.in-Decide.change c.in-Decide.yes
      c.in-Decide.is c.if-not-yes.false)
      c.note_update.ensures.exact;
}

pub returns-in-Count : goal.returns-in-Count
returns-in-Count c = record {
  exact = on_ok_weaker c.note_count.result
      (count_adds c.args.replica.now c.args.event.now c.args.updates.now
      c.note_count.new.updates c.in-Count.caller c.in-Count.node c.in-Count.is)
      c.note_count.ensures.exact;
}

pub returns-in_default : goal.returns-in_default
returns-in_default c = record {
  exact = others_leave c.args.replica.now c.args.event.now c.args.updates.now
      c.in_default.not-Decide c.in_default.not-Count;
}
