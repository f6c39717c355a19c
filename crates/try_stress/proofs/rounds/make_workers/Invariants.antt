use Rattle.std.proofs.Common.{◌≡◌, ◌+◌, ◌≤◌, length, All}
use Rattle.try_stress.proofs.rounds.make_workers.Given as goal

-- each worker has a pass on the tree
abbrev pub invariant-loop-number : goal.invariant-loop-number
invariant-loop-number l = record {
  trees : All (λ w. w.pass.tree ≡ l.tree) l.workers.items;
  spans : All (λ w. 1 ≤ w.plan.span) l.workers.items;
  made : l.maker.made ≡ l.fn.maker.made + length l.workers.items;
  same_tree : l.maker.tree ≡ l.tree;
  taken : l.maker.taken ≡ l.fn.maker.taken;
  count : length l.workers.items ≡ l.number;
}
