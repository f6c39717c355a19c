use Rattle.std.proofs.Common.{◌∙◌, sym, true≢false}
use Rattle.std.proofs.lemmas.Result.{on_ok_weaker}
use Rattle.check_state.proofs.ListingLemmas as lists
use Rattle.check_state.proofs.targeting.remember_lists.Goals as goal

pub returns-then-not-yes : goal.returns-then-not-yes
returns-then-not-yes c = record {
  exact = lists.refusal_lists_none c.args.replica.now c.args.event.now c.args.targets.now
      c.args.building.now _ _ _ c.in-Decide.is c.if-not-yes.true;
}

pub returns-else-not-yes : goal.returns-else-not-yes
returns-else-not-yes c = record {
  exact = on_ok_weaker c.list_by_start.result
      (lists.start_lists c.args.replica.now c.args.event.now c.args.targets.now
      c.args.building.now c.list_by_start.new.building _ _ _ c.in-Decide.is c.if-not-yes.false)
      c.list_by_start.ensures.exact;
}

pub returns-then-not-contains : goal.returns-then-not-contains
returns-then-not-contains c = record {
  exact = lists.unlisted_finish c.args.replica.now c.args.event.now c.args.targets.now
      c.args.building.now _ _ _ c.in-Finish.is
      (λ has. true≢false (sym has ∙ sym c.contains.ensures ∙ c.if-not-contains.true));
}

pub returns-else-not-contains : goal.returns-else-not-contains
returns-else-not-contains c = record {
  exact = on_ok_weaker c.add_keys.result
      (lists.finish_lists c.args.replica.now c.args.event.now c.args.targets.now
      c.args.building.now c.add_keys.new.building _ _ _ c.in-Finish.is
      (sym c.contains.ensures ∙ c.if-not-contains.false)) c.add_keys.ensures.exact;
}

pub returns-in_default : goal.returns-in_default
returns-in_default c = record {
  exact = lists.others_list_none c.args.replica.now c.args.event.now c.args.targets.now
      c.args.building.now c.in_default.not-Decide c.in_default.not-Finish;
}
