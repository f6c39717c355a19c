-- The set is right after each kind of event.
use Rattle.std.proofs.lemmas.Result.{on_ok_weaker}
use Rattle.check_state.proofs.ListingLemmas.{start_targets, refusal_targets_none, others_target_none}
use Rattle.check_state.proofs.targeting.remember_target.Goals as goal

pub returns-then-not-yes : goal.returns-then-not-yes
returns-then-not-yes c = record {
  exact = refusal_targets_none c.args.replica.now c.args.event.now c.args.targets.now
      c.in-Decide.caller c.in-Decide.change c.in-Decide.yes c.in-Decide.is c.if-not-yes.true;
}

pub returns-else-not-yes : goal.returns-else-not-yes
returns-else-not-yes c = record {
  exact = on_ok_weaker c.call_by_start.result
      (start_targets c.args.replica.now c.args.event.now c.args.targets.now
      c.call_by_start.new.called c.in-Decide.caller c.in-Decide.change c.in-Decide.yes
      c.in-Decide.is c.if-not-yes.false)
      c.call_by_start.ensures.exact;
}

pub returns-in_default : goal.returns-in_default
returns-in_default c = record {
  exact = others_target_none c.args.replica.now c.args.event.now c.args.targets.now
      c.in_default.not-Decide;
}
