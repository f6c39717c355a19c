use Rattle.std.proofs.Common.{◌≡◌, ◌≤◌, length, All}
use Rattle.try_stress.proofs.rounds.tell_all.Given as goal

-- each pass stays on the tree
abbrev pub invariant-loop-worker : goal.invariant-loop-worker
invariant-loop-worker l = record {
  keeper : l.keeper.tree ≡ l.tree;
  trees : All (λ w. w.pass.tree ≡ l.tree) l.workers;
  spans : All (λ w. 1 ≤ w.plan.span) l.workers;
  same : length l.workers ≡ length l.fn.workers;
}
