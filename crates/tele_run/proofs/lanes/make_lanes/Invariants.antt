use Rattle.std.proofs.Common.{◌≡◌, ◌++◌, map}
use Rattle.std.specs.Vec.Iter.{into_iter_items}
use Rattle.tele_lanes.specs.Lanes.{all_lane_tasks}
use Rattle.tele_run.specs.Ends.{AreMade}
use Rattle.tele_run.proofs.lanes.make_lanes.Given as goal

abbrev pub invariant-loop-mine : goal.invariant-loop-mine
invariant-loop-mine l = record {
  tasks : map (λ lane. lane.tasks) l.lanes.items ++ into_iter_items l.mine-iterator
      ≡ all_lane_tasks l.count l.tasks;
  made : AreMade l.tree l.initial.maker l.maker l.lanes.items;
}
