use Rattle.std.proofs.Common.{◌+◌}
use Rattle.ist_live.proofs.EndLemmas.{IsDownTo}
use Rattle.ist_live.proofs.ends.at_most.Given as goal

-- the keys after this one were read, and none had a value
abbrev pub invariant-spans : goal.invariant-spans
invariant-spans l = IsDownTo l.fn.pass l.pass (l.key + 1) (l.from + 1)

-- keys fall
abbrev pub decreases-spans : goal.decreases-spans
decreases-spans l = l.from
