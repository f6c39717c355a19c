use Rattle.std.proofs.Common.{◌≡◌}
use Rattle.test_trees.proofs.asking.ask_each.Given as goal

-- the pass stays on the tree
abbrev pub invariant-loop-i : goal.invariant-loop-i
invariant-loop-i l = l.pass.tree ≡ l.tree
