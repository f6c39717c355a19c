use Rattle.std.proofs.Common.{◌≡◌}
use Rattle.test_rebuilds.proofs.shares.unset_slots.Given as goal

-- the token is of the table
abbrev pub invariant-loop-i : goal.invariant-loop-i
invariant-loop-i l = l.token.view.table ≡ l.table.table
