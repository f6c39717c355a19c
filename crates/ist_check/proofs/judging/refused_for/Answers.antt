use Rattle.std.proofs.Common.{◌≡◌, ◌∙◌, true, false, List, Option, Some, None, IfSome, sym, subst}
use Rattle.std.proofs.lemmas.Result.{IfOk-weaker}
use Rattle.ist_core.specs.WordTerms.{start}
use Rattle.ist_check.specs.Conditions.{says_of}
use Rattle.ist_check.specs.declared.conditions.Condition.{Condition}
use Rattle.ist_check.specs.Failing.{Stated, TellsCondition}
use Rattle.ist_check.proofs.ReasonLemmas.{all_hold}
use Rattle.ist_check.proofs.judging.refused_for.Goals as goal

clash : false ≡ true → ⊥
clash e = cc

-- what is known of an event that may not come, if a condition is named
told : {P : Type 0} (found : Option Condition) (says : List Stated) → ¬ P → TellsCondition says found
    → IfSome found (λ condition. ¬ P × TellsCondition says (Some condition))
told None says refused tells = tt
told (Some condition) says refused tells = (refused, tells)

pub returns-then-branch : goal.returns-then-branch
returns-then-branch c = record {
  may = λ pairs words log knows none.
      (c.in_ok-may_come.ensures.exact pairs words log knows).0 c.if-branch.true;
  refused = λ pairs words log knows. tt;
}

pub returns : goal.returns
returns c = record {
  may = IfOk-weaker c.fails.result _ _
      (λ found f pairs words log knows none. all_hold (start pairs words) log c.args.event.now
      (subst (TellsCondition (says_of (start pairs words) log c.args.event.now)) none
      (f pairs words log knows))) c.fails.ensures.exact;
  refused = IfOk-weaker c.fails.result _ _
      (λ found f pairs words log knows.
      told found (says_of (start pairs words) log c.args.event.now) (λ can. clash (sym c.if-branch.false
      ∙ (c.in_ok-may_come.ensures.exact pairs words log knows).1 can)) (f pairs words log knows))
      c.fails.ensures.exact;
}
