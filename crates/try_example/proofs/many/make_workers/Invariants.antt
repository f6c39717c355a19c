use Rattle.std.proofs.Common.{◌≡◌, ◌-◌, All}
use Rattle.try_example.proofs.many.make_workers.Given as goal

-- each worker has a pass on the tree
abbrev pub invariant-loop-maker : goal.invariant-loop-maker
invariant-loop-maker l = record {
  trees : All (λ w. w.pass.tree ≡ l.tree) l.workers.items;
  same_tree : l.maker.tree ≡ l.tree;
}

abbrev pub decreases-loop-maker : goal.decreases-loop-maker
decreases-loop-maker l = l.count - l.maker.made
