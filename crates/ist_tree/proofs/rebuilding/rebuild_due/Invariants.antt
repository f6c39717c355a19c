use Rattle.std.proofs.Common.{◌-◌}
use Rattle.laws_stability.specs.Progress.{most_progress, progress}
use Rattle.ist_tree.specs.Attempts.{GoesFor}
use Rattle.ist_tree.specs.CallTerms.{KeepsDone}
use Rattle.ist_tree.proofs.rebuilding.rebuild_due.Given as goal

-- each attempt went on for this row, and left starts done
abbrev pub invariant-turns : goal.invariant-turns
invariant-turns l = GoesFor l.initial.who l.who l.due.target × KeepsDone l.initial.who l.who

-- and each but the last saw the table make progress
abbrev pub decreases-turns : goal.decreases-turns
decreases-turns l = most_progress - progress l.who.token.view.log
