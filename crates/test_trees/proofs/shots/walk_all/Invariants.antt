use Rattle.std.proofs.Common.{◌≡◌}
use Rattle.ist_tree.specs.CallTerms.{IsFrozenFor}
use Rattle.ist_scan.specs.Walks.{IsWalkOfPass}
use Rattle.test_trees.proofs.shots.walk_all.Given as goal

-- the pass stays on the tree
abbrev pub invariant-loop : goal.invariant-loop
invariant-loop l =
    (l.pass.tree ≡ l.tree) × IsFrozenFor l.pass l.shot × (l.walk.shot ≡ l.shot) × IsWalkOfPass l.pass l.walk
