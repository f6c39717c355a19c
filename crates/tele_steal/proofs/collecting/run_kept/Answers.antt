use Rattle.std.proofs.Common.{[], ◌∷◌, map, ◌∙◌, arith}
use Rattle.tele_steal.specs.Runs.{IsNewLane, ticket}
use Rattle.tele_steal.proofs.RunLemmas.{All-rest, All-last, length_more, same_length, run_step}
use Rattle.tele_steal.proofs.collecting.run_kept.Goals as goal

-- the last lane wasn't run
pub run_into-requires-clause-fresh : goal.run_into-requires-clause-fresh
run_into-requires-clause-fresh g c κs within =
    All-last (IsNewLane g.P.Port.calls g.P.Port.refused) _ _ _ c.in-Some.ensures.items
    c.loop-lane.invariant.fresh

-- one more kept lane was run
pub loop-lane-preserved : goal.loop-lane-preserved
loop-lane-preserved g c = let old = c.loop-lane.invariant in let now = c.run_into.ensures in
    let popped = c.in-Some.ensures.items in let shorter = length_more _ _ _ popped in
    let t = ticket g.P.Port.tie in
    let longer = same_length t c.loop-lane.lanes.items c.run_into.new.bag.items
    (t c.in-Some.lane ∷ []) now.tickets in
    record {
      tickets = run_step t (map t c.args.kept.now.items) c.loop-lane.lanes.items
          c.run_into.new.bag.items
          c.loop-lane.kept.items c.pop.new.self.items c.in-Some.lane old.tickets popped now.tickets;
      fresh = All-rest (IsNewLane g.P.Port.calls g.P.Port.refused) _ _ _ popped old.fresh;
      ran = now.ran old.ran;
      few = omega (arith, shorter, longer, old.few, now.room);
      lane_room = now.room ∙ old.lane_room;
      room = c.pop.ensures.capacity ∙ old.room;
    }
