use Rattle.std.proofs.Common.{◌≡◌}
use Rattle.try_bench.proofs.workers.Worker.grow.Given as goal

-- the pass stays on the tree
abbrev pub invariant-loop-number : goal.invariant-loop-number
invariant-loop-number l = (l.self.pass.tree ≡ l.tree) × (l.self.plan ≡ l.fn.self.plan)
