use Rattle.std.proofs.Common.{◌≡◌, ◌+◌, ◌≤◌}
use Rattle.test_runs.proofs.dumps.put_ten.Given as goal

-- the pass stays on the tree, and no more puts were answered than made
abbrev pub invariant-loop-key : goal.invariant-loop-key
invariant-loop-key l = (l.pass.tree ≡ l.tree) × (l.count + 1 ≤ l.key)
