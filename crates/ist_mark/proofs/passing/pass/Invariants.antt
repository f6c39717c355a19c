use Rattle.std.proofs.Common.{◌-◌}
use Rattle.ist_mark.specs.Passing.{HasMarked}
use Rattle.laws_stability.specs.Progress.{progress, most_progress}
use Rattle.ist_mark.proofs.passing.pass.Given as goal

-- each turn only made steps of marking
abbrev pub invariant-turns : goal.invariant-turns
invariant-turns l = HasMarked l.node l.initial.token l.token

-- and brought the table on: by the Resolve of the change that it met
abbrev pub decreases-turns : goal.decreases-turns
decreases-turns l = most_progress - progress l.token.view.log
