use Rattle.std.proofs.Common.{◌≡◌}
use Rattle.try_example.proofs.paging.put_keys.Given as goal

-- the pass is one of the tree
abbrev pub invariant-loop-key : goal.invariant-loop-key
invariant-loop-key l = l.pass.tree ≡ l.tree
