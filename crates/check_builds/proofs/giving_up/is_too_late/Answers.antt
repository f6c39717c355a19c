use Rattle.std.proofs.Common.{sym, subst, map}
use Rattle.check_fairness.specs.Searching.{AreBuilding}
use Rattle.check_fairness.proofs.AnswerLemmas.{iff_trans}
use Rattle.check_builds.proofs.LoseLemmas.{late_is}
use Rattle.check_builds.proofs.giving_up.is_too_late.Goals as goal

pub returns : goal.returns
returns c = record {
  exact = λ t log s k.
      let lists = subst (λ xs. AreBuilding t (map (λ v. v.items) xs))
      (sym c.as_slice.ensures.value) s.lists in
      let beaten = (c.is_beaten.ensures.exact log k).0 c.if-not-is_beaten.false in
      iff_trans c.is_listed.ensures.exact
      (late_is t log c.args.caller c.args.sizes.now beaten _ lists);
}
