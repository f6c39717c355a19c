use Rattle.std.proofs.Common.{◌≡◌}
use Rattle.test_trees.proofs.rebuilds.put_again.Given as goal

-- the pass stays on the tree
abbrev pub invariant-loop-value : goal.invariant-loop-value
invariant-loop-value l = l.pass.tree ≡ l.tree
