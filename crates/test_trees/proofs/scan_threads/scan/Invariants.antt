use Rattle.std.proofs.Common.{◌≡◌}
use Rattle.test_trees.proofs.scan_threads.scan.Given as goal

-- the pass stays on the tree
abbrev pub invariant-loop : goal.invariant-loop
invariant-loop l = l.pass.tree ≡ l.tree
