use Rattle.std.proofs.Common.{◌≡◌, All, map, vec_capacity}
use Rattle.crossbeam_deque.specs.Handles.{view, IsPassOf, stealer_deque}
use Rattle.tele_steal.specs.Runs.{IsRunLane, ticket}
use Rattle.tele_steal.specs.Tallies.{of_worker, taken_by}
use Rattle.tele_steal.proofs.workers.work.Given as goal

abbrev pub invariant-loop : goal.invariant-loop
invariant-loop g l = record {
  table : IsPassOf (stealer_deque l.thief) l.hand.pass;
  worker : view l.hand.pass ≡ of_worker (taken_by (view l.hand.pass));
  tickets : map (ticket g.P.Port.tie) l.hand.bag.items
      ≡ map (ticket g.P.Port.tie) (taken_by (view l.hand.pass));
  ran : All (IsRunLane g.P.Port.calls g.P.Port.refused) l.hand.bag.items;
  room : vec_capacity l.hand.bag ≡ vec_capacity l.initial.hand.bag;
}
