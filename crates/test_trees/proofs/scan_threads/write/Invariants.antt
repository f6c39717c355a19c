use Rattle.std.proofs.Common.{◌≡◌}
use Rattle.test_trees.proofs.scan_threads.write.Given as goal

-- the pass stays on the tree
abbrev pub invariant-loop-i : goal.invariant-loop-i
invariant-loop-i l = l.pass.tree ≡ l.tree

abbrev pub invariant-loop-j : goal.invariant-loop-j
invariant-loop-j l = l.pass.tree ≡ l.tree
