use Rattle.std.proofs.Common.{arith}
use Rattle.check_fairness.proofs.AnswerLemmas.{iff_trans, is_not, never}
use Rattle.check_events.proofs.CountLemmas.{starts_is, starts_not}
use Rattle.check_events.proofs.kinds.starts.Goals as goal

pub returns-then-not-may_be_rebuilt : goal.returns-then-not-may_be_rebuilt
returns-then-not-may_be_rebuilt c = record {
  exact = λ t h.
      let early = is_not c.may_be_rebuilt.result _ (c.may_be_rebuilt.ensures.exact t h)
      c.if-not-may_be_rebuilt.true in
      never (starts_not t c.args.change.now c.args.fresh.now c.in-Some.target
      c.in-Some.ensures.exact.0 early);
}

pub returns-in-Some-rebuild_of_word : goal.returns-in-Some-rebuild_of_word
returns-in-Some-rebuild_of_word c = record {
  exact = λ t h. let may = (c.may_be_rebuilt.ensures.exact t h).0 c.if-not-may_be_rebuilt.false in
      iff_trans c.is_one_row.ensures.exact (starts_is t c.args.change.now c.args.fresh.now
      c.in-Some.target c.in-Some-rebuild_of_word.rebuild (omega arith) (omega arith)
      (omega arith) c.in-Some.ensures.exact.0 may
      c.in-Some-rebuild_of_word.ensures.exact.0);
}
