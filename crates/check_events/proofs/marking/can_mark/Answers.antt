use Rattle.std.proofs.Common.{◌<◌, ◌↔◌, IsTrue, sym, arith, subst}
use Rattle.ist_core.specs.TreeTerms.{IsCalled}
use Rattle.check_fairness.proofs.AnswerLemmas.{iff_trans}
use Rattle.check_events.proofs.DecisionLemmas.{inner_stands}
use Rattle.check_events.proofs.MarkLemmas.{mark_is}
use Rattle.check_events.proofs.marking.can_mark.Goals as goal

pub returns-else-row-ne-OPEN_WORD : goal.returns-else-row-ne-OPEN_WORD
returns-else-row-ne-OPEN_WORD c = record {
  exact = λ t log h k. let row = c.in-Some.row.now in
      let stands = inner_stands c.args.replica.now t c.args.node h row
      (sym c.in-Some.ensures.value) in
      let callers = h.callers in let known : c.args.caller < t.callers = omega arith in
      let called = subst (λ b. IsTrue b ↔ IsCalled t log c.args.node) (sym c.contains.ensures)
      (k c.args.node) in
      iff_trans called (mark_is t c.args.caller c.args.node row stands known log (omega arith));
}
