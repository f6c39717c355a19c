use Rattle.std.proofs.Common.{subst}
use Rattle.ist_rows.specs.declared.callers.Caller.{Caller}
use Rattle.ist_tree.specs.CallTerms.{HasMet, counted_as, Rebuilds}
use Rattle.ist_tree.proofs.MeetingLemmas.{still_frozen, target_frozen}
use Rattle.ist_tree.proofs.SearchCountLemmas.{few_after, froze_begun}
use Rattle.ist_tree.proofs.freezing.freeze_below.Goals as goal

-- the caller before, as if it had begun all the searches then
abbrev was : Caller → Caller → Caller
was old new = counted_as old new.token.view.searches

-- what is frozen as it is
pub returns-in-Still-clause-froze : goal.returns-in-Still-clause-froze
returns-in-Still-clause-froze c =
    still_frozen (was c.args.who.now c.look_below.new.who) c.look_below.new.who _ _
    (subst (HasMet (was c.args.who.now c.look_below.new.who) c.look_below.new.who) c.in-Still.is
    c.in_ok-frozen.ensures.met)

-- the target of the rebuild is what is frozen
pub returns-in-Rebuilt-clause-froze : goal.returns-in-Rebuilt-clause-froze
returns-in-Rebuilt-clause-froze c =
    froze_begun c.args.who.now c.look_below.new.who c.freeze_target.new.who _ _
    c.freeze_target.ensures.froze.on
    (target_frozen (was c.args.who.now c.look_below.new.who) c.look_below.new.who
    c.freeze_target.new.who _ c.in-Rebuilt.rebuild c.in-Rebuilt.target _
    (subst (HasMet (was c.args.who.now c.look_below.new.who) c.look_below.new.who) c.in-Rebuilt.is
    c.in_ok-frozen.ensures.met) c.freeze_target.ensures.froze)

pub returns-in-Rebuilt-clause-few_walks : goal.returns-in-Rebuilt-clause-few_walks
returns-in-Rebuilt-clause-few_walks c =
    few_after Rebuilds c.args.who.now.token.view c.look_below.new.who.token.view
    c.freeze_target.new.who.token.view c.look_below.ensures.few_walks c.freeze_target.ensures.froze.on.gone.went
