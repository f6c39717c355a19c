use Rattle.std.proofs.Common.{◌≡◌}
use Rattle.ist_tree.specs.CallTerms.{IsFrozenFor}
use Rattle.test_trees.proofs.shots.first_wrong.Given as goal

-- the pass stays on the tree
abbrev pub invariant-loop-first : goal.invariant-loop-first
invariant-loop-first l = (l.pass.tree ≡ l.tree) × IsFrozenFor l.pass l.shot
