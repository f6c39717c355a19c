use Rattle.std.proofs.Common.{◌<◌, sym, arith, subst, ◌↔◌, IsTrue, not}
use Rattle.ist_core.specs.TreeTerms.{MayBe}
use Rattle.check_fairness.proofs.AnswerLemmas.{iff_trans, not_so}
use Rattle.check_events.proofs.DecisionLemmas.{change_stands, decision_is}
use Rattle.check_events.proofs.deciding.can_decide.Goals as goal

pub returns-else-yes : goal.returns-else-yes
returns-else-yes c = record {
  exact = λ t log h k. let row = c.in-Some.row.now in
      let stands = change_stands c.args.replica.now t c.args.change h row
      (sym c.in-Some.ensures.value) in
      let callers = h.callers in let known : c.args.caller < t.callers = omega arith in
      let closed = not_so c.is_open.result _ (c.is_open.ensures.exact t h) in
      let may = subst (λ said. IsTrue (not c.is_open.result) ↔ MayBe t log c.args.change row
      said) (sym c.if-yes.false) closed in
      iff_trans may (decision_is t c.args.caller c.args.change row stands known log c.args.yes
      (omega arith));
}
