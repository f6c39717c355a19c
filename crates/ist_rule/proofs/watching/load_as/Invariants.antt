use Rattle.ist_rule.specs.RuleTerms.{loads_as}
use Rattle.ist_rule.proofs.watching.load_as.Given as goal

-- the step is the event that the caller names for the log and the word, if any
abbrev pub ghosts-load : goal.ghosts-load
ghosts-load g a = record { then = loads_as g.event }
