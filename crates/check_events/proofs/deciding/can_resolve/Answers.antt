use Rattle.std.proofs.Common.{◌<◌, ◌↔◌, IsTrue, sym, arith, subst}
use Rattle.ist_core.specs.WordTerms.{SlotHolds}
use Rattle.check_fairness.proofs.AnswerLemmas.{iff_trans}
use Rattle.check_events.proofs.DecisionLemmas.{change_stands, resolve_is}
use Rattle.check_events.proofs.deciding.can_resolve.Goals as goal

pub returns-else-row-eq-UNDECIDED : goal.returns-else-row-eq-UNDECIDED
returns-else-row-eq-UNDECIDED c = record {
  exact = λ t h. let row = c.in-Some.row.now in
      let stands = change_stands c.args.replica.now t c.args.change h row
      (sym c.in-Some.ensures.value) in
      let callers = h.callers in let known : c.args.caller < t.callers = omega arith in
      let holds = subst (λ w. IsTrue c.slot_holds.result ↔ SlotHolds t row.node row.index w)
      c.change_word.ensures.value (c.slot_holds.ensures.exact t h) in
      iff_trans holds (resolve_is t c.args.caller c.args.change row stands known (omega arith));
}
