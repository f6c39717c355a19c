use Rattle.std.proofs.Common.{◌∷◌, []}
use Rattle.ist_core.specs.LogTerms.{state}
use Rattle.ist_check.specs.Conditions.{count_says}
use Rattle.ist_check.proofs.TellLemmas.{next, tells}
use Rattle.ist_check.proofs.changes.count_fails.Goals as goal

pub returns : goal.returns
returns c = record {
  exact = λ first log h u k w. tells
      (c.test_of.result ∷ c.test_of-2.result ∷ c.test_of-3.result ∷ [])
      (count_says first log c.args.caller c.args.node) c.first_failing.result
      (next c.test_of.result c.test_of.ensures.value
      (c.is_known.ensures.exact (state first log) h)
      (next c.test_of-2.result c.test_of-2.ensures.value
      (c.is_uncounted.ensures.exact (state first log) log u)
      (next c.test_of-3.result c.test_of-3.ensures.value
      (c.can_count.ensures.exact first log h u k w) tt)))
      c.first_failing.ensures.exact;
}
