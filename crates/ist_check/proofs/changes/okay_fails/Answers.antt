use Rattle.std.proofs.Common.{◌∷◌, []}
use Rattle.ist_check.specs.Conditions.{okay_says}
use Rattle.ist_check.proofs.TellLemmas.{next, tells}
use Rattle.ist_check.proofs.changes.okay_fails.Goals as goal

pub returns : goal.returns
returns c = record {
  exact = λ t h. tells
      (c.test_of.result ∷ c.test_of-2.result ∷ c.test_of-3.result ∷ c.test_of-4.result ∷ [])
      (okay_says t c.args.caller c.args.change) c.first_failing.result
      (next c.test_of.result c.test_of.ensures.value (c.is_known.ensures.exact t h)
      (next c.test_of-2.result c.test_of-2.ensures.value (c.has_change.ensures.exact t h)
      (next c.test_of-3.result c.test_of-3.ensures.value (c.is_undecided.ensures.exact t h)
      (next c.test_of-4.result c.test_of-4.ensures.value (c.can_okay.ensures.exact t h) tt))))
      c.first_failing.ensures.exact;
}
