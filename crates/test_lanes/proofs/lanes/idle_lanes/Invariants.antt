use Rattle.std.proofs.Common.{◌≡◌, [], ◌++◌, ◌≤◌, All, None, length, map}
use Rattle.std.specs.Vec.Iter.{into_iter_items}
use Rattle.tele_lanes.specs.Lanes.{all_lane_tasks}
use Rattle.test_lanes.proofs.lanes.idle_lanes.Given as goal

abbrev pub invariant-loop-mine : goal.invariant-loop-mine
invariant-loop-mine l = record {
  tasks : map (λ lane. lane.tasks) l.lanes.items ++ into_iter_items l.mine-iterator
      ≡ all_lane_tasks l.workers l.tasks;
  empty : All (λ lane. lane.answers.list ≡ []) l.lanes.items;
  room : All (λ lane. length lane.tasks ≤ lane.answers.room) l.lanes.items;
  no_calls : All (λ lane. lane.port.told.items ≡ []) l.lanes.items;
  unrefused : All (λ lane. lane.port.refused ≡ None) l.lanes.items;
}
