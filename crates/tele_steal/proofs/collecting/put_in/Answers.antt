use Rattle.std.proofs.Common.{◌∙◌, arith, rules}
use Rattle.tele_steal.specs.Runs.{IsNewLane}
use Rattle.tele_steal.proofs.RunLemmas.{All-rest, All-last, length_more}
use Rattle.tele_steal.proofs.ShuffleLemmas.{one_over}
use Rattle.tele_steal.proofs.collecting.put_in.Goals as goal

-- the last lane wasn't run
pub put_or_keep-requires-clause-fresh : goal.put_or_keep-requires-clause-fresh
put_or_keep-requires-clause-fresh g c =
    All-last (IsNewLane g.P.Port.calls g.P.Port.refused) _ _ _ c.in-Some.ensures.items
    c.loop-lane.invariant.fresh

-- one more lane is in the deque, or kept
pub loop-lane-preserved : goal.loop-lane-preserved
loop-lane-preserved g c = let old = c.loop-lane.invariant in let now = c.put_or_keep.ensures in
    let popped = c.in-Some.ensures.items in let shorter = length_more _ _ _ popped in record {
      same = search (arith, rules);
      owner = search rules;
      shared = one_over _ _ _ _ _ _ old.shared popped now.shared;
      fresh = All-rest (IsNewLane g.P.Port.calls g.P.Port.refused) _ _ _ popped old.fresh;
      kept_fresh = now.fresh old.kept_fresh;
      lane_room = c.pop.ensures.capacity ∙ old.lane_room;
      room = now.room ∙ old.room;
      few = omega (arith, shorter, old.few, now.few);
      kept_few = omega (arith, shorter, old.kept_few, now.kept_few, now.room);
    }
