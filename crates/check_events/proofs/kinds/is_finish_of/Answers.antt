use Rattle.std.proofs.Common.{[], IsTrue, subst, sym, arith}
use Rattle.check_fairness.proofs.AnswerLemmas.{iff_trans}
use Rattle.check_events.proofs.DecisionLemmas.{rebuild_stands}
use Rattle.check_events.proofs.CountLemmas.{finish_of_is}
use Rattle.check_events.proofs.kinds.is_finish_of.Goals as goal

pub returns-else-row-change-3 : goal.returns-else-row-change-3
returns-else-row-change-3 c = record {
  exact = λ t h k. let row = c.in-Some.row.now in
      let stands = rebuild_stands c.args.replica.now t c.args.rebuild h row
      (sym c.in-Some.ensures.value) in
      let started = (k c.args.rebuild).0 (subst IsTrue c.contains.ensures
      c.if-not-contains.false) in
      iff_trans (c.is_built.ensures.exact t h) (finish_of_is t c.args.change.now []
      c.args.rebuild row stands started (omega arith) (omega arith) (omega arith));
}
