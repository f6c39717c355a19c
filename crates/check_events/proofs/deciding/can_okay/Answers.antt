use Rattle.std.proofs.Common.{◌<◌, sym, arith}
use Rattle.check_fairness.proofs.AnswerLemmas.{iff_trans}
use Rattle.check_events.proofs.DecisionLemmas.{change_stands, okay_is}
use Rattle.check_events.proofs.deciding.can_okay.Goals as goal

pub returns-then-row-eq-UNDECIDED : goal.returns-then-row-eq-UNDECIDED
returns-then-row-eq-UNDECIDED c = record {
  exact = λ t h.
      let stands = change_stands c.args.replica.now t c.args.change h c.in-Some.row.now
      (sym c.in-Some.ensures.value) in
      let callers = h.callers in let known : c.args.caller < t.callers = omega arith in
      iff_trans (c.is_open.ensures.exact t h) (okay_is t c.args.caller c.args.change
      c.in-Some.row.now stands known (omega arith));
}
