use Rattle.std.proofs.Common.{◌≡◌}
use Rattle.try_example.proofs.counting.raise_often.Given as goal

-- the pass is of the tree
abbrev pub invariant-loop : goal.invariant-loop
invariant-loop l = l.pass.tree ≡ l.tree
