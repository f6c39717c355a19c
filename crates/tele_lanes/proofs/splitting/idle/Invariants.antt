use Rattle.std.proofs.Common.{◌≡◌, []}
use Rattle.tele_lanes.specs.Lanes.{all_lane_tasks}
use Rattle.tele_lanes.proofs.splitting.idle.Given as goal

abbrev pub invariant-loop-lane : goal.invariant-loop-lane
invariant-loop-lane l = l.lanes.items ≡ all_lane_tasks l.lane []
