use Rattle.std.proofs.Common.{◌≤◌, reverse, take}
use Rattle.ist_check.specs.Knowing.{Knows}
use Rattle.ist_check.proofs.judging.judge.Given as goal

abbrev pub invariant-loop-at : goal.invariant-loop-at
invariant-loop-at l = Knows l.replica l.past l.start l.words (reverse (take l.at l.log))
    × (l.past.builds.count ≤ l.at)
