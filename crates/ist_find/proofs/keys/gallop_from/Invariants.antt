use Rattle.std.proofs.Common.{◌-◌}
use Rattle.ist_find.proofs.KeyLemmas.{HasRunGallop}
use Rattle.ist_find.proofs.keys.gallop_from.Given as goal

-- each load was a look of the gallop, and counted
abbrev pub invariant-loop-gallop : goal.invariant-loop-gallop
invariant-loop-gallop l =
    HasRunGallop l.fn.token.view l.token.view l.node l.from l.key l.gallop l.loads

abbrev pub decreases-loop-gallop : goal.decreases-loop-gallop
decreases-loop-gallop l = l.gallop.high - l.gallop.low
