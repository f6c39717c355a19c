use Rattle.std.proofs.Common.{◌≡◌, take}
use Rattle.tele_lanes.specs.Lanes.{all_lane_tasks}
use Rattle.tele_lanes.proofs.splitting.split.Given as goal

abbrev pub invariant-loop-task : goal.invariant-loop-task
invariant-loop-task l = l.lanes.items ≡ all_lane_tasks l.workers (take l.task-index l.tasks)
