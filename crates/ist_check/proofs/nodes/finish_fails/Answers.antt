use Rattle.std.proofs.Common.{◌∷◌, []}
use Rattle.ist_check.specs.Conditions.{finish_says}
use Rattle.ist_check.proofs.TellLemmas.{next, tells}
use Rattle.ist_check.proofs.nodes.finish_fails.Goals as goal

pub returns : goal.returns
returns c = record {
  exact = λ t log h k. tells
      (c.test_of.result ∷ c.test_of-2.result ∷ c.test_of-3.result ∷ c.test_of-4.result ∷ [])
      (finish_says t log c.args.caller c.args.node c.args.keys) c.first_failing.result
      (next c.test_of.result c.test_of.ensures.value (c.is_known.ensures.exact t h)
      (next c.test_of-2.result c.test_of-2.ensures.value (c.has_inner.ensures.exact t h)
      (next c.test_of-3.result c.test_of-3.ensures.value (c.has_status.ensures.exact t h)
      (next c.test_of-4.result c.test_of-4.ensures.value
      (c.can_finish.ensures.exact t log h k) tt))))
      c.first_failing.ensures.exact;
}
