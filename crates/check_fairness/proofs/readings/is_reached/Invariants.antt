use Rattle.std.proofs.Common.{map, take}
use Rattle.check_fairness.specs.Readings.{IsLeftBefore}
use Rattle.check_fairness.proofs.readings.is_reached.Given as goal

-- none of the readings so far leaves the same
abbrev pub invariant-loop-other : goal.invariant-loop-other
invariant-loop-other l = ¬ (IsLeftBefore (map (λ v. v.items) l.lists)
    (take l.other-index l.readings) l.reading)
