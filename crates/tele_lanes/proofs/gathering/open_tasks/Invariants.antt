use Rattle.std.proofs.Common.{◌≡◌, take}
use Rattle.std.specs.List.{flat_map}
use Rattle.tele_lanes.specs.Lanes.{unanswered}
use Rattle.tele_lanes.proofs.gathering.open_tasks.Given as goal

abbrev pub invariant-loop-lane : goal.invariant-loop-lane
invariant-loop-lane g l = l.all.items ≡ flat_map (λ lane. unanswered lane.tasks lane.answers.list)
    (take l.lane-index l.lanes)
