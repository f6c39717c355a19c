use Rattle.ist_rule.specs.RuleTerms.{begins}
use Rattle.ist_rule.proofs.calling.begin_call.Given as goal

-- the step begins a call with the command that the caller gives
abbrev pub ghosts-load : goal.ghosts-load
ghosts-load g a = record { then = begins g.asked }
