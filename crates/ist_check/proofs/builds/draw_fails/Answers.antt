use Rattle.std.proofs.Common.{◌∷◌, []}
use Rattle.ist_check.specs.Conditions.{draw_says}
use Rattle.ist_check.proofs.TellLemmas.{next, tells}
use Rattle.ist_check.proofs.builds.draw_fails.Goals as goal

pub returns : goal.returns
returns c = record {
  exact = λ t log h k. tells
      (c.test_of.result ∷ c.test_of-2.result ∷ c.test_of-3.result ∷ c.test_of-4.result
      ∷ c.test_of-5.result ∷ c.test_of-6.result ∷ c.test_of-7.result ∷ [])
      (draw_says t log c.args.caller c.args.rebuild c.args.part) c.first_failing.result
      (next c.test_of.result c.test_of.ensures.value (c.is_known.ensures.exact t h)
      (next c.test_of-2.result c.test_of-2.ensures.value (c.has_rebuild.ensures.exact t h)
      (next c.test_of-3.result c.test_of-3.ensures.value (c.is_rooted.ensures.exact t h)
      (next c.test_of-4.result c.test_of-4.ensures.value (c.is_finished.ensures.exact t h)
      (next c.test_of-5.result c.test_of-5.ensures.value (c.is_shared.ensures.exact t h)
      (next c.test_of-6.result c.test_of-6.ensures.value (c.is_next_part.ensures.exact t h)
      (next c.test_of-7.result c.test_of-7.ensures.value
      (c.can_draw.ensures.exact t log h k) tt)))))))
      c.first_failing.ensures.exact;
}
