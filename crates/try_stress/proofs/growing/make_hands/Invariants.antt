use Rattle.std.proofs.Common.{◌≡◌, length}
use Rattle.try_stress.proofs.growing.make_hands.Given as goal

-- there is one for each number so far
abbrev pub invariant-loop-pass : goal.invariant-loop-pass
invariant-loop-pass l = length l.hands.items ≡ l.pass
