use Rattle.ist_rows.specs.RowTerms.{IsAtTable}
use Rattle.ist_tree.specs.CallTerms.{IsPass}
use Rattle.test_rebuilds.proofs.updates.update_all.Given as goal

-- the caller is of the table, and in no call
abbrev pub invariant-loop-key : goal.invariant-loop-key
invariant-loop-key l = IsAtTable l.table IsPass l.who
