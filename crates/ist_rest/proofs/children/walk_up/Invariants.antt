use Rattle.std.proofs.Common.{◌<◌, ◌-◌}
use Rattle.ist_rest.proofs.children.walk_up.Given as goal

abbrev pub invariant-loop-at : goal.invariant-loop-at
invariant-loop-at g l = l.at < l.degree

abbrev pub decreases-loop-at : goal.decreases-loop-at
decreases-loop-at g l = l.degree - l.at
