use Rattle.std.proofs.Common.{◌-◌}
use Rattle.ist_math.proofs.ChildLemmas.{HasGalloped}
use Rattle.ist_math.proofs.children.gallop_from.Given as goal

-- the child is above the lower key and no further than the upper one
abbrev pub invariant-loop-gallop : goal.invariant-loop-gallop
invariant-loop-gallop l = HasGalloped l.keys l.x l.from l.gallop l.looks

abbrev pub decreases-loop-gallop : goal.decreases-loop-gallop
decreases-loop-gallop l = l.gallop.high - l.gallop.low
