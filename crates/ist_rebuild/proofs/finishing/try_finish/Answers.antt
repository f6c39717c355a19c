use Rattle.std.proofs.Common.{ap, ◌∙◌, rules}
use Rattle.ist_core.specs.WordTerms.{change_words}
use Rattle.ist_rule.proofs.WentOnLemmas.{goes_on_went}
use Rattle.ist_rebuild.specs.Going.{ServesRebuild}
use Rattle.ist_rebuild.specs.Needs.{wanting}
use Rattle.ist_rebuild.proofs.RefusalLemmas.{passed_more}
use Rattle.ist_rebuild.proofs.SiteLemmas.{parent_node, plan_on, plan_went}
use Rattle.ist_rebuild.proofs.TryLemmas.{tried_all, tried_few, tried_further, tried_helped, tried_none, tried_ready}
use Rattle.ist_rebuild.proofs.finishing.try_finish.Goals as goal

-- the parent is a node
pub is_open-requires-clause-node : goal.is_open-requires-clause-node
is_open-requires-clause-node c = parent_node _ c.know.ensures.sound c.args.plan c.requires.plan

-- if the parent isn't open, the slot decides
pub settle-requires-clause-ready : goal.settle-requires-clause-ready
settle-requires-clause-ready c =
    (tried_ready c.args.who.now _ c.requires.ready.0 c.is_open.ensures.seen, search rules)

pub settle-requires-clause-plan : goal.settle-requires-clause-plan
settle-requires-clause-plan c = search (rules, plan_on)

pub returns-then-not-is_open : goal.returns-then-not-is_open
returns-then-not-is_open c = let e = c.settle.ensures in record {
  helped = tried_helped c.args.who.now _ c.requires.ready.0 c.is_open.ensures.seen _ e.helped;
  few = tried_none c.args.who.now _ c.requires.ready.0 c.is_open.ensures.seen _ e.helped _ e.none;
  held = λ is. absurd (cc);
  replaced = search rules;
  left = search rules;
  further = λ is. absurd (cc);
  full = tt;
}

-- if it is open, no change of the caller's on it was refused
pub prepare-requires : goal.prepare-requires
prepare-requires c =
    let ready = tried_ready c.args.who.now _ c.requires.ready.0 c.is_open.ensures.seen in
    search (rules, plan_on, c.is_open.ensures.unrefused)

-- a change row that was refused
pub returns-in_err-change-clause-helped : goal.returns-in_err-change-clause-helped
returns-in_err-change-clause-helped c = search (rules, tried_helped)

pub returns-in_err-change-clause-full : goal.returns-in_err-change-clause-full
returns-in_err-change-clause-full c =
    passed_more c.from_residual.result _ _ _ _ _ _ c.from_residual.ensures.1
    (goes_on_went ServesRebuild _ _ c.is_open.ensures.seen) c.in_err-change.ensures.full

pub returns-in_err-change-clause-few : goal.returns-in_err-change-clause-few
returns-in_err-change-clause-few c =
    let few = tried_few c.args.who.now _ c.requires.ready.0 c.is_open.ensures.seen c.prepare.new.who
    c.prepare.ensures.helped c.prepare.result _ 0 c.prepare.ensures.few in
    search rules

-- the plan is still a plan
pub carry-tried-requires-clause-plan : goal.carry-tried-requires-clause-plan
carry-tried-requires-clause-plan c = search (rules, plan_on, plan_went)

pub conclude-requires-clause-plan : goal.conclude-requires-clause-plan
conclude-requires-clause-plan c = search (rules, plan_on, plan_went)

-- the steps were steps of help; a turn that must be repeated has left the row of the change
pub returns : goal.returns
returns c = let t = c.carry-tried.ensures in let e = c.conclude.ensures in
    let all = tried_all c.args.who.now _ c.requires.ready.0 c.is_open.ensures.seen c.prepare.new.who
    c.prepare.ensures.helped _ _ t.helped e.helped t.none e.none
    (wanting c.args.who.now.change change_words) c.in_ok-change.ensures.few in
    record {
      helped = all.0;
      few = all.1;
      held = λ is. let again = e.again (cc) in ap (λ o. wanting o change_words)
          (e.held ∙ t.held again.0 again.1 ∙ c.in_ok-change.ensures.prepared.row);
      replaced = search rules;
      left = search rules;
      further = λ is. tried_further c.args.who.now _ c.requires.ready.0 c.is_open.ensures.seen c.prepare.new.who
          c.prepare.ensures.helped _ _ t.helped e.helped (e.further (cc));
      full = tt;
    }
