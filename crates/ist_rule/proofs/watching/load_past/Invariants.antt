use Rattle.ist_rule.specs.RuleTerms.{past_of}
use Rattle.ist_rule.proofs.watching.load_past.Given as goal

-- the event is named by the rows that are given
abbrev pub ghost-load_as : goal.ghost-load_as
ghost-load_as a = past_of a.token.now.view a.row
