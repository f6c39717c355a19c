use Rattle.std.proofs.Common.{◌≡◌}
use Rattle.try_stress.proofs.workers.Worker.work.Given as goal

-- the pass stays on the tree
abbrev pub invariant-loop : goal.invariant-loop
invariant-loop l = (l.self.pass.tree ≡ l.tree) × (l.self.plan ≡ l.fn.self.plan)
