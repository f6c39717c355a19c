use Rattle.test_rebuilds.specs.Steps.{HasMarkedTarget}
use Rattle.ist_rows.specs.RowTerms.{IsReady, IsAtTable}
use Rattle.ist_rule.specs.RuleTerms.{now}
use Rattle.test_rebuilds.proofs.loads.first_other.Given as goal

-- the token is of the table, and the target is finished still
abbrev pub invariant-loop-i : goal.invariant-loop-i
invariant-loop-i l = IsAtTable l.table IsReady l.who
    × HasMarkedTarget (now l.who.token.view) l.rebuild l.marked.target l.marked.keys
