use Rattle.std.proofs.Common.{◌≡◌}
use Rattle.test_trees.proofs.reopened.put_until_full.Given as goal

-- the pass stays on the tree
abbrev pub invariant-loop-key : goal.invariant-loop-key
invariant-loop-key l = l.pass.tree ≡ l.tree
