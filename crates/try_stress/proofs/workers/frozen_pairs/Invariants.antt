use Rattle.std.proofs.Common.{◌≡◌}
use Rattle.ist_tree.specs.CallTerms.{IsFrozenFor}
use Rattle.try_stress.proofs.workers.frozen_pairs.Given as goal

-- the tree stays frozen
abbrev pub invariant-loop-i : goal.invariant-loop-i
invariant-loop-i l = (l.pass.tree ≡ l.tree) × IsFrozenFor l.pass l.frozen
