use Rattle.std.proofs.Common.{◌≡◌}
use Rattle.ist_tree.specs.CallTerms.{IsFrozenFor}
use Rattle.test_trees.proofs.scans.rebuild_ten.Given as goal

-- the pass stays on the tree
abbrev pub invariant-loop-value : goal.invariant-loop-value
invariant-loop-value l = (l.pass.tree ≡ l.tree) × IsFrozenFor l.pass l.shot
