use Rattle.ist_rule.specs.RuleTerms.{ends}
use Rattle.ist_rule.proofs.calling.end_call.Given as goal

-- the step ends the call that the caller shows
abbrev pub ghosts-load : goal.ghosts-load
ghosts-load g a = record { then = ends g.call }
