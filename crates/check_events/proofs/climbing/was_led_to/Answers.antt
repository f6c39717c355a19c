use Rattle.std.proofs.Common.{◌≤◌, arith, sym}
use Rattle.std.proofs.lemmas.Bool.Decides.{nat_tests}
use Rattle.ist_core.specs.LogTerms.{state}
use Rattle.check_fairness.proofs.AnswerLemmas.{iff_trans}
use Rattle.check_events.proofs.WayUpLemmas.{climbs_is}
use Rattle.check_events.proofs.climbing.was_led_to.Goals as goal

pub returns-in-None : goal.returns-in-None
returns-in-None c = record {
  exact = λ first log h k w stay. iff_trans (c.climbs.ensures.exact (state first log) h k.rises)
      (climbs_is first log c.args.past.now.slots k stay c.args.key c.args.node);
}

pub returns-then-way-key : goal.returns-then-way-key
returns-then-way-key c = record {
  exact = λ first log h k w stay. let low = c.if-way-key.true in
      let it = (w c.args.node c.in-Some.way.now (sym c.in-Some.ensures.value)).led c.args.key
      (omega arith) in (
        (λ e. let high : c.args.key ≤ c.in-Some.way.now.high = grind (arith, nat_tests) in
            it.1 (low, high)),
        (λ led. let high = (it.0 led).1 in grind (arith, nat_tests)),
      );
}

pub returns-else-way-key : goal.returns-else-way-key
returns-else-way-key c = record {
  exact = λ first log h k w stay. let low = c.if-way-key.false in
      let it = (w c.args.node c.in-Some.way.now (sym c.in-Some.ensures.value)).led c.args.key
      (omega arith) in (
        (λ e. let high : c.in-Some.way.now.low ≤ c.args.key = grind (arith, nat_tests) in
            absurd (omega arith)),
        (λ led. let high = (it.0 led).0 in absurd (omega arith)),
      );
}
