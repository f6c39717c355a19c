use Rattle.std.proofs.Common.{◌∷◌, []}
use Rattle.ist_check.specs.Conditions.{pass_says}
use Rattle.ist_check.proofs.TellLemmas.{next, tells}
use Rattle.ist_check.proofs.nodes.pass_fails.Goals as goal

pub returns : goal.returns
returns c = record {
  exact = λ t h. tells
      (c.test_of.result ∷ c.test_of-2.result ∷ c.test_of-3.result ∷ c.test_of-4.result
      ∷ c.test_of-5.result ∷ c.test_of-6.result ∷ [])
      (pass_says t c.args.caller c.args.node c.args.i c.args.word) c.first_failing.result
      (next c.test_of.result c.test_of.ensures.value (c.is_known.ensures.exact t h)
      (next c.test_of-2.result c.test_of-2.ensures.value (c.has_inner.ensures.exact t h)
      (next c.test_of-3.result c.test_of-3.ensures.value (c.has_status.ensures.exact t h)
      (next c.test_of-4.result c.test_of-4.ensures.value (c.has_in_slot.ensures.exact t h)
      (next c.test_of-5.result c.test_of-5.ensures.value c.names_no_change.ensures.exact
      (next c.test_of-6.result c.test_of-6.ensures.value (c.can_pass.ensures.exact t h) tt))))))
      c.first_failing.ensures.exact;
}
