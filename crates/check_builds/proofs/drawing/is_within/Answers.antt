use Rattle.std.proofs.Common.{ℕ, subst, sym, arith}
use Rattle.std.specs.Ordering.{nat_cmp}
use Rattle.std.specs.BTreeMap as tree
use Rattle.ist_core.specs.LogTerms.{Happened, Draws}
use Rattle.check_fairness.specs.Answers.{FindsGreatest}
use Rattle.check_builds.proofs.DrawLemmas.{none_below, most_below}
use Rattle.check_builds.proofs.drawing.is_within.Goals as goal

pub returns-in-None : goal.returns-in-None
returns-in-None c = record {
  exact = λ log h. let P = λ (x : ℕ). Happened (Draws c.args.caller c.args.rebuild x) log in
      let known = h c.args.caller c.args.rebuild (omega arith) (omega arith) in
      let at = subst (λ k. FindsGreatest P (tree.get nat_cmp c.args.past.now.drawn k))
      (sym c.pair_key.ensures.value) known in
      none_below P c.args.limit (subst (FindsGreatest P) (sym c.in-None.ensures.value) at);
}

pub returns-in-Some : goal.returns-in-Some
returns-in-Some c = record {
  exact = λ log h. let P = λ (x : ℕ). Happened (Draws c.args.caller c.args.rebuild x) log in
      let known = h c.args.caller c.args.rebuild (omega arith) (omega arith) in
      let at = subst (λ k. FindsGreatest P (tree.get nat_cmp c.args.past.now.drawn k))
      (sym c.pair_key.ensures.value) known in
      most_below P c.args.limit c.in-Some.most.now
      (subst (FindsGreatest P) (sym c.in-Some.ensures.value) at);
}
