use Rattle.std.proofs.Common.{Ok, ap, ◌∙◌, rules}
use Rattle.laws_coming.proofs.FurtherLemmas.{fewer_left}
use Rattle.ist_rebuild.proofs.FewLemmas.{few_helped, turn_first, turn_more}
use Rattle.ist_rebuild.proofs.EventLemmas.{helped_more}
use Rattle.ist_rebuild.proofs.RefusalLemmas.{passed_more}
use Rattle.ist_rebuild.proofs.SiteLemmas.{plan_went}
use Rattle.ist_rebuild.proofs.finishing.finish.Goals as goal

pub turns-init : goal.turns-init
turns-init c = turn_first c.args.who.now c.requires.ready.0 c.know.ensures.sound _

pub try_finish-requires-clause-plan : goal.try_finish-requires-clause-plan
try_finish-requires-clause-plan c = search (rules, plan_went)

pub turns-preserved : goal.turns-preserved
turns-preserved c =
    let none = c.try_finish.ensures.held (c.in_ok-helped.was ∙ ap Ok c.in_default.is) in
    turn_more c.args.who.now _ _ c.turns.invariant c.try_finish.ensures.helped none c.in_ok-helped.ensures.few

pub turns-smaller : goal.turns-smaller
turns-smaller c =
    let further = c.try_finish.ensures.further (c.in_ok-helped.was ∙ ap Ok c.in_default.is) in
    fewer_left _ _ c.try_finish.ensures.helped.on.gone.went.sound further

pub returns-in-Some-clause-helped : goal.returns-in-Some-clause-helped
returns-in-Some-clause-helped c = search (rules, helped_more)

pub returns-in-Some-clause-few : goal.returns-in-Some-clause-few
returns-in-Some-clause-few c =
    few_helped (Ok c.in-Some.helped) c.args.who.now c.turns.who c.try_finish.new.who _ _ 0 c.turns.invariant.0
    c.try_finish.ensures.helped c.turns.invariant.1 c.in_ok-helped.ensures.few

pub returns-in_err-helped : goal.returns-in_err-helped
returns-in_err-helped c =
    let helped = helped_more _ _ _ c.turns.invariant.0 c.try_finish.ensures.helped in
    let few = few_helped c.try_finish.result c.args.who.now c.turns.who c.try_finish.new.who _ _ 0
    c.turns.invariant.0 c.try_finish.ensures.helped c.turns.invariant.1 c.try_finish.ensures.few in
    let full = passed_more c.from_residual.result _ _ _ _ _ _ c.from_residual.ensures.1
    c.turns.invariant.0.on.gone.went c.in_err-helped.ensures.full in
    record { helped = helped; few = search rules; replaced = search rules; left = search rules; full = full }
