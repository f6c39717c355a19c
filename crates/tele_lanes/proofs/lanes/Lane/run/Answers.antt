use Rattle.std.proofs.Common.{◌+◌, arith, ap, ◌∙◌, refl}
use Rattle.std.proofs.lemmas.List.{length_push}
use Rattle.tele_lanes.proofs.OrderLemmas.{follows_push, map-push_both}
use Rattle.tele_lanes.proofs.lanes.Lane.run.Goals as goal

-- one more call, which was answered: its command and its answer's line are the next task's
pub loop-index-preserved : goal.loop-index-preserved
loop-index-preserved g c = record {
  called = rw c.in-Ok.ensures.recorded
      (length_push _ _ ∙ ap (λ n. n + 1) c.loop-index.invariant.called);
  answered = rw c.keep.ensures.kept
      (length_push _ _ ∙ ap (λ n. n + 1) c.loop-index.invariant.answered);
  room = omega arith;
  number = c.loop-index.invariant.number;
  stopped = c.loop-index.invariant.stopped;
  unrefused = c.in-Ok.ensures.unrefused ∙ c.loop-index.invariant.unrefused;
  tie = c.call-outcome.ensures.same_tie ∙ c.loop-index.invariant.tie;
  calls = rw c.in-Ok.ensures.recorded
      (follows_push _ _ _ _ _ _ _ c.loop-index.invariant.called c.loop-index-test.true refl c.loop-index.invariant.calls);
  answers = rw c.keep.ensures.kept
      (follows_push _ _ _ _ _ _ _ c.loop-index.invariant.answered c.loop-index-test.true refl c.loop-index.invariant.answers);
  replies = map-push_both _ _ _ _ _ _ _ _ c.keep.ensures.kept c.in-Ok.ensures.recorded refl c.loop-index.invariant.replies;
}
