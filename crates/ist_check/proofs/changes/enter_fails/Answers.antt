use Rattle.std.proofs.Common.{◌∷◌, []}
use Rattle.ist_check.specs.Conditions.{enter_says}
use Rattle.ist_check.proofs.TellLemmas.{next, tells}
use Rattle.ist_check.proofs.changes.enter_fails.Goals as goal

pub returns : goal.returns
returns c = record {
  exact = λ t h. tells (c.test_of.result ∷ c.test_of-2.result ∷ [])
      (enter_says t c.args.caller) c.first_failing.result
      (next c.test_of.result c.test_of.ensures.value (c.is_next_caller.ensures.exact t h)
      (next c.test_of-2.result c.test_of-2.ensures.value (c.can_enter.ensures.exact t h) tt))
      c.first_failing.ensures.exact;
}
