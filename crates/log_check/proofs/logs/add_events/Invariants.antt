use Rattle.log_check.specs.Opening.{LogOpens}
use Rattle.log_check.proofs.logs.add_events.Given as goal

abbrev pub invariant-loop-at : goal.invariant-loop-at
invariant-loop-at l = LogOpens l.log
