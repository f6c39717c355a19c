use Rattle.std.proofs.Common.{◌≡◌, take}
use Rattle.check_fairness.proofs.keeping.common_len.Given as goal

-- both begin with the same sizes so far
abbrev pub invariant-loop-n : goal.invariant-loop-n
invariant-loop-n l = take l.n l.xs ≡ take l.n l.ys
