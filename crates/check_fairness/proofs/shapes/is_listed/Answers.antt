use Rattle.std.proofs.Common.{◌∙◌, ⊎_elim, refl, sym, subst, map}
use Rattle.ist_core.specs.LogTerms.{Among}
use Rattle.check_fairness.proofs.AnswerLemmas.{is_not}
use Rattle.check_fairness.proofs.ListLemmas.{among_item, among_more}
use Rattle.check_fairness.proofs.shapes.is_listed.Goals as goal

pub returns-then-are_same : goal.returns-then-are_same
returns-then-are_same c =
    let m = among_item (λ v. v.items) c.args.lists.now c.loop-list.list-index c.list-item.result
    c.loop-list-test.true c.list-item.is in
    let same = c.are_same.ensures.exact.0 c.if-are_same.true ∙ c.as_slice.ensures.value in record {
      exact = (
        (λ _. subst (λ xs. Among xs (map (λ v. v.items) c.args.lists.now)) (sym same)
            m),
        (λ _. refl),
      );
    }

pub loop-list-preserved : goal.loop-list-preserved
loop-list-preserved c a = ⊎_elim (λ h. c.loop-list.invariant h)
    (λ e. is_not c.are_same.result _ c.are_same.ensures.exact c.if-are_same.false
    (e ∙ sym c.as_slice.ensures.value))
    (among_more (λ v. v.items) c.args.lists.now c.loop-list.list-index c.list-item.result
    c.args.sizes.now c.loop-list-test.true c.list-item.is a)
