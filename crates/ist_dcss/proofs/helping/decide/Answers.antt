use Rattle.std.proofs.Common.{◌∙◌, ap, arith}
use Rattle.ist_rule.specs.declared.view.View.{View}
use Rattle.ist_rule.proofs.ExchangeLemmas.{known_low, keeps_more, exchanged_keeps, loaded_as_keeps}
use Rattle.ist_dcss.proofs.DecidedLemmas.{helper_can_decide, helper_decided}
use Rattle.ist_dcss.proofs.DecideLemmas.{may_decide}
use Rattle.ist_dcss.proofs.helping.decide.Goals as goal

-- the change may be decided by the status that was loaded
pub exchange-stood-requires : goal.exchange-stood-requires
exchange-stood-requires c =
    let it = may_decide _ c.args.change c.requires.may_help _ c.field-node.ensures.went _
    c.field-node.ensures.field _ c.status_place.ensures.value _ _ c.load_okay-status.ensures.seen in
    let can = helper_can_decide _ _ _ _ _ it _ _ c.from.ensures c.decision_for-wanted.ensures.value
    c.know.ensures.sound in
    let low = known_low _ _ c.know.ensures.sound can.known in
    let here = ap (λ (v : View). v.table) it.went.same ∙ c.requires.same_table in
    let same = ap (λ t. t.words) here in (here, (omega arith, can))

-- the caller served the change, which has the decision that is returned
pub returns : goal.returns
returns c =
    let it = may_decide _ c.args.change c.requires.may_help _ c.field-node.ensures.went _
    c.field-node.ensures.field _ c.status_place.ensures.value _ _ c.load_okay-status.ensures.seen in
    let told = helper_decided _ _ _ _ _ it _ _ c.from.ensures c.decision_for-wanted.ensures.value _ _
    c.exchange-stood.ensures.exchanged _ c.decision_of.ensures.value in
    record {
      went = told.0;
      search = keeps_more _ _ _ c.field-node.ensures.search
          (keeps_more _ _ _ (loaded_as_keeps _ _ _ _ _ c.load_okay-status.ensures.seen)
          (exchanged_keeps _ _ _ _ _ _ c.exchange-stood.ensures.exchanged));
      decided = told.1;
    }
