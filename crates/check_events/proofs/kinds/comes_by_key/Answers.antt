use Rattle.ist_core.specs.LogTerms.{state}
use Rattle.check_fairness.proofs.AnswerLemmas.{iff_trans}
use Rattle.check_events.proofs.KindLemmas.{key_is}
use Rattle.check_events.proofs.kinds.comes_by_key.Goals as goal

pub returns : goal.returns
returns c = record {
  exact = λ first log h k w stay.
      let led = (c.was_led_to.ensures.exact first log h k w stay).0 c.if-not-was_led_to.false in
      iff_trans (c.is_child_for.ensures.exact (state first log) h)
      (key_is first log c.args.change.now led);
}
