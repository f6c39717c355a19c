use Rattle.ist_rule.specs.RuleTerms.{pass_of}
use Rattle.ist_rule.proofs.watching.load_pass.Given as goal

-- the event is named by the rows that are given
abbrev pub ghost-load_as : goal.ghost-load_as
ghost-load_as a = pass_of a.token.now.view a.row a.index
