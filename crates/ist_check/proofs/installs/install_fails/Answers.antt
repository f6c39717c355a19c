use Rattle.std.proofs.Common.{◌∷◌, [], subst}
use Rattle.ist_core.specs.LogTerms.{state}
use Rattle.ist_check.specs.Conditions.{says_of_change}
use Rattle.ist_check.specs.Failing.{TellsCondition}
use Rattle.ist_check.proofs.TellLemmas.{next, tells}
use Rattle.ist_check.proofs.installs.install_fails.Goals as goal

pub returns : goal.returns
returns c = record {
  exact = λ first log h k w r s stay. let change = c.first_change-change.result in
      subst (λ o. TellsCondition (says_of_change first log c.args.caller c.args.base c.args.rows.now o)
      c.first_failing.result) c.first_change-change.ensures.value (tells
      (c.test_of.result ∷ c.test_of-2.result ∷ c.test_of-3.result ∷ c.test_of-4.result
      ∷ c.test_of-5.result ∷ c.test_of-6.result ∷ c.test_of-7.result ∷ c.test_of-8.result
      ∷ c.test_of-9.result ∷ [])
      (says_of_change first log c.args.caller c.args.base c.args.rows.now change)
      c.first_failing.result
      (next c.test_of.result c.test_of.ensures.value
      (c.is_known.ensures.exact (state first log) h)
      (next c.test_of-2.result c.test_of-2.ensures.value c.is_there.ensures.exact
      (next c.test_of-3.result c.test_of-3.ensures.value
      (c.holds_rows.ensures.exact (state first log) h)
      (next c.test_of-4.result c.test_of-4.ensures.value c.is_owned.ensures.exact
      (next c.test_of-5.result c.test_of-5.ensures.value c.is_unset.ensures.exact
      (next c.test_of-6.result c.test_of-6.ensures.value
      (c.is_in_slot.ensures.exact (state first log) h)
      (next c.test_of-7.result c.test_of-7.ensures.value (c.is_linked.ensures.exact first log k)
      (next c.test_of-8.result c.test_of-8.ensures.value
      (c.is_free.ensures.exact (state first log) r)
      (next c.test_of-9.result c.test_of-9.ensures.value
      (c.can_install.ensures.exact first log h k w r s stay) tt)))))))))
      c.first_failing.ensures.exact);
}
