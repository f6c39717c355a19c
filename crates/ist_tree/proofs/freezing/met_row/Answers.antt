use Rattle.std.proofs.Common.{subst, Ok, ap}
use Rattle.ist_tree.specs.CallTerms.{HasStarted}
use Rattle.ist_tree.proofs.FreezeLookLemmas.{begun_met}
use Rattle.ist_tree.proofs.freezing.met_row.Goals as goal

-- the rebuild that was started is met
pub returns-in-Some-clause-met : goal.returns-in-Some-clause-met
returns-in-Some-clause-met c =
    begun_met c.args.who.now c.begin_rebuild.new.who c.args.target c.in-Some.rebuild c.requires.row.top
    (subst (HasStarted c.args.who.now c.begin_rebuild.new.who c.args.target) c.in-Some.is
    c.in_ok-rebuild.ensures.begun)

pub returns-in-None-clause-further : goal.returns-in-None-clause-further
returns-in-None-clause-further c _ = c.in_ok-rebuild.ensures.further (ap Ok c.in-None.is)
