use Rattle.std.proofs.Common.{subst}
use Rattle.check_builds.specs.Losing.{IsTooLate}
use Rattle.check_fairness.proofs.AnswerLemmas.{iff_trans, is_not, never}
use Rattle.check_builds.proofs.LoseLemmas.{sizes_found, build_is, build_not}
use Rattle.check_builds.proofs.giving_up.loses_build.Goals as goal

pub returns-then-not-is_too_late : goal.returns-then-not-is_too_late
returns-then-not-is_too_late c = record {
  exact = λ t log h s k.
      let found = sizes_found t c.args.caller c.args.bases.now c.in_ok-sizes_at.field-0
      c.in-Some.sizes c.in-Some.is (c.in_ok-sizes_at.ensures.exact t h) in
      let early = is_not c.is_too_late.result _ (c.is_too_late.ensures.exact t log s k)
      c.if-not-is_too_late.true in
      never (build_not t log c.args.caller c.args.bases.now c.in-Some.sizes.items found.1
      (subst (λ xs. ¬ (IsTooLate t log c.args.caller xs)) c.as_slice.ensures.value early));
}

pub returns-else-not-is_too_late : goal.returns-else-not-is_too_late
returns-else-not-is_too_late c = record {
  exact = λ t log h s k.
      let found = sizes_found t c.args.caller c.args.bases.now c.in_ok-sizes_at.field-0
      c.in-Some.sizes c.in-Some.is (c.in_ok-sizes_at.ensures.exact t h) in
      let late = (c.is_too_late.ensures.exact t log s k).0 c.if-not-is_too_late.false in
      iff_trans c.are_distinct.ensures.exact
      (build_is t log c.args.caller c.args.bases.now c.in-Some.sizes.items found.1 found.0
      (subst (IsTooLate t log c.args.caller) c.as_slice.ensures.value late));
}
