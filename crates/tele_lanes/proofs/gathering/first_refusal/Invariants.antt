use Rattle.std.proofs.Common.{◌≡◌, map, drop}
use Rattle.tele_lanes.specs.Lanes.{first_refusal}
use Rattle.tele_lanes.proofs.gathering.first_refusal.Given as goal

abbrev pub invariant-loop-lane : goal.invariant-loop-lane
invariant-loop-lane g l = first_refusal (map (λ lane. lane.stopped) l.lanes)
    ≡ first_refusal (map (λ lane. lane.stopped) (drop l.lane-index l.lanes))
