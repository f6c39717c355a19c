use Rattle.std.proofs.Common.{◌≡◌}
use Rattle.test_trees.proofs.shots.put_all.Given as goal

-- the pass stays on the tree
abbrev pub invariant-loop-pair : goal.invariant-loop-pair
invariant-loop-pair l = l.pass.tree ≡ l.tree
