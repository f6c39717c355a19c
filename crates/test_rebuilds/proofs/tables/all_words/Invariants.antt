use Rattle.std.proofs.Common.{◌≡◌}
use Rattle.test_rebuilds.proofs.tables.all_words.Given as goal

-- the token is of the table
abbrev pub invariant-loop-place : goal.invariant-loop-place
invariant-loop-place l = l.token.view.table ≡ l.table.table
