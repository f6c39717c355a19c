use Rattle.std.proofs.Common.{◌≡◌, ◌+◌, ◌≤◌, [], ◌++◌, All, map, length, vec_capacity}
use Rattle.crossbeam_deque.specs.Handles.{view, IsPassOf, SameWorker, worker_deque, worker_view}
use Rattle.tele_steal.specs.Runs.{IsRunLane, ticket}
use Rattle.tele_steal.specs.Tallies.{of_owner, of_worker, taken_by}
use Rattle.tele_steal.proofs.collecting.get_back.Given as goal

abbrev pub invariant-loop-hand : goal.invariant-loop-hand
invariant-loop-hand g l = record {
  same : SameWorker l.initial.owner l.owner;
  owner : worker_view l.owner ≡ of_owner (length l.hands.items) (worker_view l.initial.owner).put
      (worker_view l.owner).back;
  lanes_tickets : map (ticket g.P.Port.tie) l.lanes.items ≡ map
      (ticket g.P.Port.tie) l.initial.lanes.items
      ++ map (ticket g.P.Port.tie) (worker_view l.owner).back;
  lanes_ran : All (IsRunLane g.P.Port.calls g.P.Port.refused) l.lanes.items;
  lane_room : vec_capacity l.initial.lanes ≤ vec_capacity l.lanes;
  room : length l.lanes.items + length (worker_view l.initial.owner).put
      ≤ vec_capacity l.lanes + length (worker_view l.owner).back;
  tables : All (λ h. IsPassOf (worker_deque l.initial.owner) h.pass) l.hands.items;
  workers : All (λ h. view h.pass ≡ of_worker (taken_by (view h.pass))) l.hands.items;
  tickets : All (λ h. map (ticket g.P.Port.tie) h.bag.items
      ≡ map (ticket g.P.Port.tie) (taken_by (view h.pass))) l.hands.items;
  ran : All (λ h. All (IsRunLane g.P.Port.calls g.P.Port.refused) h.bag.items) l.hands.items;
  wide : All (λ h. 64 ≤ vec_capacity h.bag) l.hands.items;
  hand_room : vec_capacity l.hands ≡ vec_capacity l.initial.hands;
  count : length l.bags.items + length l.hands.items ≡ length l.initial.hands.items;
  bag_room : vec_capacity l.bags ≡ vec_capacity l.initial.bags;
  bags_empty : All (λ b. b.items ≡ []) l.bags.items;
  bags_wide : All (λ b. 64 ≤ vec_capacity b) l.bags.items;
}

abbrev pub decreases-loop-hand : goal.decreases-loop-hand
decreases-loop-hand g l = length l.hands.items
