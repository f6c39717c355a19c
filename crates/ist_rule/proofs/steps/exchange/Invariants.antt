use Rattle.ist_rule.specs.RuleTerms.{exchanges}
use Rattle.ist_rule.proofs.steps.exchange.Given as goal

-- the step is the event that the caller names, or a load
abbrev pub ghosts-compare_exchange : goal.ghosts-compare_exchange
ghosts-compare_exchange g a = record { then = exchanges g.event }
