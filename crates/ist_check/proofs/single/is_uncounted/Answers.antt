use Rattle.std.proofs.Common.{◌↔◌, IsTrue, sym, subst, refl}
use Rattle.check_events.specs.Remembering.{LacksCount}
use Rattle.check_fairness.proofs.AnswerLemmas.{iff_trans, never, not_so}
use Rattle.ist_check.proofs.single.is_uncounted.Goals as goal

pub returns-in-None : goal.returns-in-None
returns-in-None c = record {
  exact = λ t log u. never (λ x.
      subst (λ o. LacksCount o c.args.node x.0) (sym c.in-None.ensures.value)
      ((u c.args.caller c.args.node x.0).1 x.1));
}

pub returns-in-Some : goal.returns-in-Some
returns-in-Some c = let last = c.in-Some.last.now in record {
  exact = λ t log u. iff_trans (not_so c.contains.result _ (subst (λ b. IsTrue c.contains.result ↔ IsTrue b) c.contains.ensures ((λ y. y), (λ y. y)))) (
    (λ free. (
      last.change,
      (u c.args.caller c.args.node last.change).0
          (subst (λ o. LacksCount o c.args.node last.change) c.in-Some.ensures.value (refl, free)),
    )),
    (λ x. (subst (λ o. LacksCount o c.args.node x.0) (sym c.in-Some.ensures.value)
        ((u c.args.caller c.args.node x.0).1 x.1)).1),
  );
}
