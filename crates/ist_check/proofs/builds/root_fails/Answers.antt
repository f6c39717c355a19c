use Rattle.std.proofs.Common.{◌∷◌, []}
use Rattle.ist_check.specs.Conditions.{root_says}
use Rattle.ist_check.proofs.TellLemmas.{next, tells}
use Rattle.ist_check.proofs.builds.root_fails.Goals as goal

pub returns : goal.returns
returns c = record {
  exact = λ t h k free. tells
      (c.test_of.result ∷ c.test_of-2.result ∷ c.test_of-3.result ∷ c.test_of-4.result
      ∷ c.test_of-5.result ∷ c.test_of-6.result ∷ c.test_of-7.result ∷ [])
      (root_says t c.args.caller c.args.rebuild c.args.word c.args.rows.now) c.first_failing.result
      (next c.test_of.result c.test_of.ensures.value (c.is_known.ensures.exact t h)
      (next c.test_of-2.result c.test_of-2.ensures.value (c.has_rebuild.ensures.exact t h)
      (next c.test_of-3.result c.test_of-3.ensures.value (c.is_started.ensures.exact t k)
      (next c.test_of-4.result c.test_of-4.ensures.value (c.is_rootless.ensures.exact t h)
      (next c.test_of-5.result c.test_of-5.ensures.value (c.is_finished.ensures.exact t h)
      (next c.test_of-6.result c.test_of-6.ensures.value (c.holds_rows.ensures.exact t h)
      (next c.test_of-7.result c.test_of-7.ensures.value
      (c.in_ok-may.ensures.exact t h k free) tt)))))))
      c.first_failing.ensures.exact;
}
