use Rattle.std.proofs.Common.{◌<◌, refl, arith}
use Rattle.std.proofs.lemmas.Result.{IfOk-weaker}
use Rattle.check_fairness.proofs.AnswerLemmas.{iff_trans, is_not}
use Rattle.check_builds.proofs.LoseLemmas.{lose_pair, lose_is}
use Rattle.check_builds.proofs.giving_up.can_lose.Goals as goal

pub returns-then-loses_pair : goal.returns-then-loses_pair
returns-then-loses_pair c = record {
  exact = λ t log h s k. let callers = h.callers in
      let known : c.args.caller < t.callers = omega arith in
      let pair = (c.loses_pair.ensures.exact t h).0 c.if-loses_pair.true in
      ((λ _. lose_pair t log c.args.caller c.args.bases.now known pair), (λ _. refl));
}

pub returns : goal.returns
returns c = record {
  exact = IfOk-weaker c.loses_build.result _ _
      (λ may exact t log h s k. let callers = h.callers in
      let known : c.args.caller < t.callers = omega arith in
      let no_pair = is_not c.loses_pair.result _ (c.loses_pair.ensures.exact t h)
      c.if-loses_pair.false in
      iff_trans (exact t log h s k)
      (lose_is t log c.args.caller c.args.bases.now known no_pair))
      c.loses_build.ensures.exact;
}
