use Rattle.std.proofs.Common.{map, refl}
use Rattle.check_fairness.proofs.AnswerLemmas.{is_not, reached_at, reached_more}
use Rattle.check_fairness.proofs.readings.is_reached.Goals as goal

pub returns-then-leave_same : goal.returns-then-leave_same
returns-then-leave_same c = let lists = map (λ v. v.items) c.args.lists.now in record {
  exact = (
    (λ _. reached_at lists c.args.reading c.args.readings.now c.loop-other.other-index _
        c.loop-other-test.true (c.leave_same.ensures.exact.0 c.if-leave_same.true)),
    (λ _. refl),
  );
}

pub loop-other-preserved : goal.loop-other-preserved
loop-other-preserved c = let lists = map (λ v. v.items) c.args.lists.now in
    reached_more lists c.args.reading c.args.readings.now c.loop-other.other-index _
    c.loop-other-test.true c.loop-other.invariant
    (is_not c.leave_same.result _ c.leave_same.ensures.exact c.if-leave_same.false)
