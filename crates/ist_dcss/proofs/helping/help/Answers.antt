use Rattle.std.proofs.Common.{true, false, subst}
use Rattle.ist_dcss.specs.Helping.{Serves, is_yes, IsDecided}
use Rattle.ist_rule.proofs.WentOnLemmas.{went_more}
use Rattle.ist_rule.proofs.ExchangeLemmas.{keeps_more}
use Rattle.ist_dcss.proofs.DecidedLemmas.{decided_on, yes_seen, no_seen}
use Rattle.ist_dcss.proofs.helping.help.Goals as goal

-- both halves only made steps that serve the change
pub returns-clause-went : goal.returns-clause-went
returns-clause-went c =
    went_more (Serves c.args.change) _ _ _ c.decide-decision.ensures.went c.resolve.ensures.went

pub returns-clause-search : goal.returns-clause-search
returns-clause-search c = keeps_more _ _ _ c.decide-decision.ensures.search c.resolve.ensures.search

-- a decision stays
pub returns-clause-decided : goal.returns-clause-decided
returns-clause-decided c =
    decided_on c.args.change _ _ c.resolve.ensures.went _ c.decide-decision.ensures.decided

-- a yes had an Okay
pub returns-clause-yes : goal.returns-clause-yes
returns-clause-yes c is = yes_seen _ c.resolve.ensures.went.sound c.args.change
    (decided_on c.args.change _ _ c.resolve.ensures.went true
    (subst (λ d. IsDecided c.decide-decision.new.token.view c.args.change (is_yes d)) is
    c.decide-decision.ensures.decided))

-- a no is for a node that wasn't open
pub returns-clause-no : goal.returns-clause-no
returns-clause-no c is = no_seen _ c.resolve.ensures.went.sound c.args.change
    (decided_on c.args.change _ _ c.resolve.ensures.went false
    (subst (λ d. IsDecided c.decide-decision.new.token.view c.args.change (is_yes d)) is
    c.decide-decision.ensures.decided))
