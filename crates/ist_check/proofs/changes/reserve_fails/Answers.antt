use Rattle.std.proofs.Common.{◌∷◌, []}
use Rattle.ist_check.specs.Conditions.{reserve_says}
use Rattle.ist_check.proofs.TellLemmas.{next, tells}
use Rattle.ist_check.proofs.changes.reserve_fails.Goals as goal

pub returns : goal.returns
returns c = record {
  exact = λ t h k. tells
      (c.test_of.result ∷ c.test_of-2.result ∷ c.test_of-3.result ∷ c.test_of-4.result ∷ [])
      (reserve_says t c.args.caller c.args.base c.args.size) c.first_failing.result
      (next c.test_of.result c.test_of.ensures.value (c.is_known.ensures.exact t h)
      (next c.test_of-2.result c.test_of-2.ensures.value (c.is_next.ensures.exact t h)
      (next c.test_of-3.result c.test_of-3.ensures.value (c.has_room.ensures.exact t h)
      (next c.test_of-4.result c.test_of-4.ensures.value
      (c.in_ok-may.ensures.exact t h k) tt))))
      c.first_failing.ensures.exact;
}
