use Rattle.ist_rule.specs.RuleTerms.{adds}
use Rattle.ist_rule.proofs.steps.add.Given as goal

-- the step is the event that the caller names for the word found
abbrev pub ghosts-fetch_add : goal.ghosts-fetch_add
ghosts-fetch_add g a = record { then = adds g.event }
