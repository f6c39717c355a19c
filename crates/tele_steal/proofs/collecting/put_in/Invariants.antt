use Rattle.std.proofs.Common.{◌≡◌, ◌+◌, ◌≤◌, ◌++◌, All, length, vec_capacity, IsPermutation}
use Rattle.crossbeam_deque.specs.Handles.{SameWorker, worker_view}
use Rattle.tele_steal.specs.Runs.{IsNewLane}
use Rattle.tele_steal.specs.Tallies.{of_owner}
use Rattle.tele_steal.proofs.collecting.put_in.Given as goal

abbrev pub invariant-loop-lane : goal.invariant-loop-lane
invariant-loop-lane g l = record {
  same : SameWorker l.initial.owner l.owner;
  owner : worker_view l.owner ≡ of_owner (worker_view l.initial.owner).out (worker_view l.owner).put
      (worker_view l.initial.owner).back;
  shared : IsPermutation ((worker_view l.initial.owner).put ++ l.initial.lanes.items)
      (((worker_view l.owner).put ++ l.kept.items) ++ l.lanes.items);
  fresh : All (IsNewLane g.P.Port.calls g.P.Port.refused) l.lanes.items;
  kept_fresh : All (IsNewLane g.P.Port.calls g.P.Port.refused) l.kept.items;
  lane_room : vec_capacity l.lanes ≡ vec_capacity l.initial.lanes;
  room : vec_capacity l.kept ≡ vec_capacity l.initial.kept;
  few : length (worker_view l.owner).put + length l.lanes.items ≤ 64;
  kept_few : length l.kept.items + length l.lanes.items ≤ vec_capacity l.kept;
}

abbrev pub decreases-loop-lane : goal.decreases-loop-lane
decreases-loop-lane g l = length l.lanes.items
