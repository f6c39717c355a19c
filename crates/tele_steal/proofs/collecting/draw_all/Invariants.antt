use Rattle.std.proofs.Common.{◌≡◌, ◌+◌, ◌≤◌, ◌++◌, List, All, map, length, vec_capacity}
use Rattle.crossbeam_deque.specs.Handles.{SameWorker, worker_view}
use Rattle.tele_steal.specs.Runs.{IsRunLane, Ticket, ticket}
use Rattle.tele_steal.specs.Tallies.{of_owner}
use Rattle.tele_steal.proofs.collecting.draw_all.Given as goal

abbrev pub invariant-loop : goal.invariant-loop
invariant-loop g l = record {
  same : SameWorker l.initial.owner l.owner;
  owner : worker_view l.owner ≡ of_owner 0 (worker_view l.initial.owner).put
      (worker_view l.owner).back;
  tickets : (kept : List (Ticket g.row.P-Tie.Denot))
      → map (ticket g.P.Port.tie) l.initial.lanes.items
      ≡ kept ++ map (ticket g.P.Port.tie) (worker_view l.initial.owner).back
      → map (ticket g.P.Port.tie) l.lanes.items
      ≡ kept ++ map (ticket g.P.Port.tie) (worker_view l.owner).back;
  ran : All (IsRunLane g.P.Port.calls g.P.Port.refused) l.lanes.items;
  room : length l.lanes.items + length (worker_view l.initial.owner).put
      ≤ vec_capacity l.lanes + length (worker_view l.owner).back;
}
