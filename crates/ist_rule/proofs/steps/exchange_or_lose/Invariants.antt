use Rattle.ist_rule.specs.RuleTerms.{exchanges_or_loses}
use Rattle.ist_rule.proofs.steps.exchange_or_lose.Given as goal

-- the step is one of the two events that the caller names
abbrev pub ghosts-compare_exchange : goal.ghosts-compare_exchange
ghosts-compare_exchange g a = record { then = exchanges_or_loses g.events }
