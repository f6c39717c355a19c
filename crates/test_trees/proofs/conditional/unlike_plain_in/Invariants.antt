use Rattle.std.proofs.Common.{◌≡◌}
use Rattle.test_trees.proofs.conditional.unlike_plain_in.Given as goal

-- the pass stays on the tree
abbrev pub invariant-loop-i : goal.invariant-loop-i
invariant-loop-i l = l.pass.tree ≡ l.tree
