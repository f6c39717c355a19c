use Rattle.std.proofs.Common.{◌∷◌, []}
use Rattle.ist_check.specs.Conditions.{place_says}
use Rattle.ist_check.proofs.TellLemmas.{next, tells}
use Rattle.ist_check.proofs.builds.place_fails.Goals as goal

pub returns : goal.returns
returns c = record {
  exact = λ t h free kept. tells
      (c.test_of.result ∷ c.test_of-2.result ∷ c.test_of-3.result ∷ c.test_of-4.result
      ∷ c.test_of-5.result ∷ c.test_of-6.result ∷ [])
      (place_says t c.args.caller c.args.rebuild c.args.i c.args.word c.args.rows.now)
      c.first_failing.result
      (next c.test_of.result c.test_of.ensures.value (c.is_known.ensures.exact t h)
      (next c.test_of-2.result c.test_of-2.ensures.value (c.has_rebuild.ensures.exact t h)
      (next c.test_of-3.result c.test_of-3.ensures.value (c.has_top.ensures.exact t h)
      (next c.test_of-4.result c.test_of-4.ensures.value (c.is_free_in_top.ensures.exact t h)
      (next c.test_of-5.result c.test_of-5.ensures.value (c.holds_rows.ensures.exact t h)
      (next c.test_of-6.result c.test_of-6.ensures.value
      (c.in_ok-may.ensures.exact t h free kept) tt))))))
      c.first_failing.ensures.exact;
}
