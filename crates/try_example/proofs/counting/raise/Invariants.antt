use Rattle.try_example.specs.Raises.{HasOnlyGot}
use Rattle.try_example.proofs.counting.raise.Given as goal

-- the pass only got the counter
abbrev pub invariant-loop : goal.invariant-loop
invariant-loop l = HasOnlyGot l.fn.pass l.pass l.key
