use Rattle.std.proofs.Common.{◌≡◌}
use Rattle.try_stress.proofs.rounds.find_all.Given as goal

-- the pass stays on the tree
abbrev pub invariant-loop-key : goal.invariant-loop-key
invariant-loop-key l = l.keeper.tree ≡ l.tree
