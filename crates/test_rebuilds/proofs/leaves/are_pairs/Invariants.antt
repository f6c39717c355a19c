use Rattle.std.proofs.Common.{◌≡◌}
use Rattle.test_rebuilds.specs.Steps.{HasMarkedTarget}
use Rattle.ist_rows.specs.RowTerms.{IsReady, IsAtTable}
use Rattle.ist_rule.specs.RuleTerms.{now}
use Rattle.test_rebuilds.proofs.leaves.are_pairs.Given as goal

-- both tokens are of the table, and the target is finished still
abbrev pub invariant-loop-i : goal.invariant-loop-i
invariant-loop-i l = (l.maker.view.table ≡ l.table.table) × IsAtTable l.table IsReady l.who
    × HasMarkedTarget (now l.who.token.view) l.rebuild l.marked.target l.marked.keys
