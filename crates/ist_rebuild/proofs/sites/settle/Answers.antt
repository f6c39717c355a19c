use Rattle.std.proofs.Common.{refl, rules}
use Rattle.ist_core.specs.WordTerms.{anchor_is}
use Rattle.laws_coming.proofs.FurtherLemmas.{fewer_left}
use Rattle.ist_rows.proofs.FewStepLemmas.{none_same}
use Rattle.ist_rebuild.proofs.EventLemmas.{helped_same}
use Rattle.ist_rebuild.proofs.PreparedLemmas.{met_further, met_helped, met_helps, met_left, met_may_help, met_none, met_replaced, met_takes, not_left, not_replaced}
use Rattle.ist_rebuild.proofs.SiteLemmas.{plan_went}
use Rattle.ist_rebuild.proofs.sites.settle.Goals as goal

-- before the first turn nothing was done
pub turns-init : goal.turns-init
turns-init c = (helped_same _ c.requires.ready.0 c.know.ensures.sound, none_same c.args.who.now, refl)

-- the plan is still a plan, and its parent isn't the anchor, which is always open
pub slot_word-word-requires-clause-plan : goal.slot_word-word-requires-clause-plan
slot_word-word-requires-clause-plan c = search (rules, plan_went)

pub slot_word-word-requires-clause-other : goal.slot_word-word-requires-clause-other
slot_word-word-requires-clause-other c is = c.requires.closed (anchor_is is)

-- a turn helps the change that was met
pub help-requires-clause-may_help : goal.help-requires-clause-may_help
help-requires-clause-may_help c = search (rules, met_may_help, c.in-Change.ensures.change _ refl)

pub turns-preserved : goal.turns-preserved
turns-preserved c = search (rules, met_helps, met_takes, c.in-Change.ensures.change _ refl)

pub turns-smaller : goal.turns-smaller
turns-smaller c = search (rules, fewer_left, met_further, c.in-Change.ensures.change _ refl)

-- the last turn loads the rebuild's word, or another word, which is no change's
pub returns-in-Itself : goal.returns-in-Itself
returns-in-Itself c =
    search (rules, met_helped, met_none, met_left, not_replaced, c.in-Itself.ensures.itself refl)

pub returns-in-Another : goal.returns-in-Another
returns-in-Another c = let no_change = c.in-Another.ensures.no_change refl in
    let another = c.in-Another.ensures.another refl in
    search (rules, met_helped, met_none, met_replaced, not_left)
