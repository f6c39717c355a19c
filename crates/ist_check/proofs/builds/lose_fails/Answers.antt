use Rattle.std.proofs.Common.{◌∷◌, []}
use Rattle.ist_check.specs.Conditions.{lose_says}
use Rattle.ist_check.proofs.TellLemmas.{next, tells}
use Rattle.ist_check.proofs.builds.lose_fails.Goals as goal

pub returns : goal.returns
returns c = record {
  exact = λ t log h k b. tells (c.test_of.result ∷ c.test_of-2.result ∷ [])
      (lose_says t log c.args.caller c.args.bases.now) c.first_failing.result
      (next c.test_of.result c.test_of.ensures.value (c.is_known.ensures.exact t h)
      (next c.test_of-2.result c.test_of-2.ensures.value
      (c.in_ok-may.ensures.exact t log h k b) tt))
      c.first_failing.ensures.exact;
}
