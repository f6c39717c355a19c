use Rattle.std.proofs.Common.{◌≡◌, ◌+◌, ◌≤◌, ◌++◌, All, map, length, vec_capacity, IsPermutation}
use Rattle.tele_steal.specs.Runs.{IsNewLane, IsRunLane, ticket}
use Rattle.tele_steal.proofs.collecting.run_kept.Given as goal

abbrev pub invariant-loop-lane : goal.invariant-loop-lane
invariant-loop-lane g l = record {
  tickets : IsPermutation (map (ticket g.P.Port.tie) l.initial.kept.items)
      (map (ticket g.P.Port.tie) l.lanes.items ++ map (ticket g.P.Port.tie) l.kept.items);
  fresh : All (IsNewLane g.P.Port.calls g.P.Port.refused) l.kept.items;
  ran : All (IsRunLane g.P.Port.calls g.P.Port.refused) l.lanes.items;
  few : length l.lanes.items + length l.kept.items ≤ vec_capacity l.lanes;
  lane_room : vec_capacity l.lanes ≡ vec_capacity l.initial.lanes;
  room : vec_capacity l.kept ≡ vec_capacity l.initial.kept;
}

abbrev pub decreases-loop-lane : goal.decreases-loop-lane
decreases-loop-lane g l = length l.kept.items
