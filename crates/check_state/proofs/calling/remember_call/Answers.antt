-- The set is right after each kind of event.
use Rattle.std.proofs.lemmas.Result.{on_ok_weaker}
use Rattle.check_state.proofs.ListingLemmas.{start_calls, pass_calls, refusal_calls_none, others_call_none}
use Rattle.check_state.proofs.calling.remember_call.Goals as goal

pub returns-then-not-yes : goal.returns-then-not-yes
returns-then-not-yes c = record {
  exact = refusal_calls_none c.args.replica.now c.args.event.now c.args.called.now
      c.in-Decide.caller c.in-Decide.change c.in-Decide.yes c.in-Decide.is c.if-not-yes.true;
}

pub returns-else-not-yes : goal.returns-else-not-yes
returns-else-not-yes c = record {
  exact = on_ok_weaker c.call_by_start.result
      (start_calls c.args.replica.now c.args.event.now c.args.called.now
      c.call_by_start.new.called c.in-Decide.caller c.in-Decide.change c.in-Decide.yes
      c.in-Decide.is c.if-not-yes.false)
      c.call_by_start.ensures.exact;
}

pub returns-in-Pass : goal.returns-in-Pass
returns-in-Pass c = let p = c.in-Pass in record {
  exact = on_ok_weaker c.call_by_word.result
      (pass_calls c.args.replica.now c.args.event.now c.args.called.now
      c.call_by_word.new.called p.caller p.node p.index p.word p.is)
      c.call_by_word.ensures.exact;
}

pub returns-in_default : goal.returns-in_default
returns-in_default c = record {
  exact = others_call_none c.args.replica.now c.args.event.now c.args.called.now
      c.in_default.not-Decide c.in_default.not-Pass;
}
