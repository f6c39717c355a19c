use Rattle.std.proofs.Common.{[], ap, arith, rules}
use Rattle.std.proofs.lemmas.List.Elements.{All-head}
use Rattle.tele_steal.specs.Runs.{IsNewLane, ticket}
use Rattle.tele_steal.proofs.OwnerLemmas.{draw_step, is_owners, room_after}
use Rattle.tele_steal.proofs.RunLemmas.{following, same_length}
use Rattle.tele_steal.proofs.collecting.draw_all.Goals as goal

-- the owner's tally
pub draw-requires-clause-owner : goal.draw-requires-clause-owner
draw-requires-clause-owner g c = is_owners _ _ _ _ c.loop.invariant.owner

-- the lane wasn't run
pub run_into-requires-clause-fresh : goal.run_into-requires-clause-fresh
run_into-requires-clause-fresh g c κs within =
    All-head (IsNewLane g.P.Port.calls g.P.Port.refused) _ [] c.in-Some-draw.ensures.drawn.fit

-- there is room
pub run_into-requires-clause-room : goal.run_into-requires-clause-room
run_into-requires-clause-room g c =
    let room = room_after _ _ _ _ _ c.loop.invariant.owner c.in-Some-draw.ensures.drawn in
    omega (arith, room, c.loop.invariant.room)

-- one more lane came back
pub loop-preserved : goal.loop-preserved
loop-preserved g c = let old = c.loop.invariant in let drawn = c.in-Some-draw.ensures.drawn in
    let now = c.run_into.ensures in let t = ticket g.P.Port.tie in
    let room = room_after _ _ _ _ _ old.owner drawn in
    let grown = same_length t c.loop.lanes.items c.run_into.new.bag.items _ now.tickets in record {
      same = search (arith, rules);
      owner = draw_step _ _ _ _ old.owner drawn.tally;
      tickets = λ kept before. following t t _ _ kept _ _ _ now.tickets (old.tickets kept before)
          (ap (λ v. v.back) drawn.tally);
      ran = now.ran old.ran;
      room = omega (arith, room.0, grown, old.room, now.room);
    }
