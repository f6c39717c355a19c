use Rattle.std.proofs.Common.{◌-◌, ◌^◌}
use Rattle.ist_live.proofs.EndLemmas.{IsUpTo}
use Rattle.ist_live.proofs.ends.at_least.Given as goal

-- the keys before this one were read, and none had a value
abbrev pub invariant-spans : goal.invariant-spans
invariant-spans l = IsUpTo l.fn.pass l.pass l.key l.from

-- keys rise
abbrev pub decreases-spans : goal.decreases-spans
decreases-spans l = 2 ^ 64 - l.from
