use Rattle.std.proofs.Common.{ap, arith, subst, sym, ◌∙◌}
use Rattle.ist_rule.specs.declared.view.View.{View}
use Rattle.ist_rule.proofs.EventLemmas.{goes_on_more, looked_goes_on}
use Rattle.ist_dcss.specs.HelpEvents.{IsSlot}
use Rattle.ist_rebuild.proofs.SiteLemmas.{parent_slot}
use Rattle.ist_rebuild.proofs.SlotLemmas.{plan_slot_low, plan_slot_off, plan_slot_told}
use Rattle.ist_rebuild.proofs.sites.slot_word.Goals as goal

-- the parent has the slot
pub slot_at-place-requires-clause-slot : goal.slot_at-place-requires-clause-slot
slot_at-place-requires-clause-slot c =
    subst (λ n. IsSlot c.args.token.now.view n c.args.plan.index) (sym c.from.ensures)
    (parent_slot _ c.know.ensures.sound c.args.plan c.requires.plan)

-- it lies in the table
pub load-requires-clause-within : goal.load-requires-clause-within
load-requires-clause-within c =
    let low = plan_slot_low _ _ c.know-2.ensures.sound c.args.plan c.requires.plan
    c.slot_at-place.ensures.seen _ _ c.from.ensures c.slot_at-place.ensures.place in
    let known = c.know-2.ensures.words in
    let here = ap (λ (v : View). v.table) c.slot_at-place.ensures.seen.same
    ∙ c.requires.same_table in
    let same = ap (λ t. t.words) here in omega arith

pub load-requires-clause-no_walk : goal.load-requires-clause-no_walk
load-requires-clause-no_walk c =
    plan_slot_off _ _ c.know-2.ensures.sound c.args.plan c.requires.plan
    c.slot_at-place.ensures.seen _ _ c.from.ensures c.slot_at-place.ensures.place c.requires.other

pub returns-clause-seen : goal.returns-clause-seen
returns-clause-seen c =
    goes_on_more _ _ _ c.slot_at-place.ensures.seen (looked_goes_on _ _ _ _ c.load.ensures.looked)

-- the word is what it holds
pub returns-clause-holds : goal.returns-clause-holds
returns-clause-holds c = plan_slot_told _ _ c.know-2.ensures.sound c.args.plan c.requires.plan
    c.slot_at-place.ensures.seen _ _ c.from.ensures c.slot_at-place.ensures.place _ _
    c.load.ensures.looked
