use Rattle.std.proofs.Common.{◌∙◌, ap, arith}
use Rattle.ist_core.specs.WordTerms.{Change}
use Rattle.ist_rule.specs.declared.view.View.{View}
use Rattle.ist_rule.proofs.ExchangeLemmas.{known_low, keeps_more, exchanged_keeps}
use Rattle.ist_dcss.proofs.FieldLemmas.{good_base}
use Rattle.ist_dcss.proofs.ResolveLemmas.{helper_can_resolve, helper_resolved, may_resolve}
use Rattle.ist_dcss.proofs.helping.resolve.Goals as goal

-- the change lies at a good base
pub to_word-word-requires : goal.to_word-word-requires
to_word-word-requires c = let i = c.field-side.ensures.field in
    record { good = good_base _ c.know.ensures.sound _ (Change i.row) i.published (omega arith) }

-- the change may leave its slot
pub exchange-requires : goal.exchange-requires
exchange-requires c =
    let it = may_resolve _ c.args.change c.requires.may_help _ c.requires.decided _
    c.slot_of-place.ensures.went _ c.slot_of-place.ensures.slot _ c.field-side.ensures.went _ _
    c.field-side.ensures.field c.side_offset.ensures.value in
    let can = helper_can_resolve _ _ _ _ _ _ it c.know.ensures.sound _ c.to_word-word.ensures.value in
    let low = known_low _ _ c.know.ensures.sound can.known in
    let here = ap (λ (v : View). v.table) it.went.same ∙ c.requires.same_table in
    let same = ap (λ t. t.words) here in (here, (omega arith, can))

-- the caller served the change, which is out of its slot
pub returns : goal.returns
returns c =
    let it = may_resolve _ c.args.change c.requires.may_help _ c.requires.decided _
    c.slot_of-place.ensures.went _ c.slot_of-place.ensures.slot _ c.field-side.ensures.went _ _
    c.field-side.ensures.field c.side_offset.ensures.value in
    let told = helper_resolved _ _ _ _ _ _ it c.know.ensures.sound _ c.to_word-word.ensures.value _ _
    c.exchange.ensures.exchanged in
    let kept = exchanged_keeps _ _ _ _ _ _ c.exchange.ensures.exchanged in
    let search = keeps_more _ _ _ c.slot_of-place.ensures.search
    (keeps_more _ _ _ c.field-side.ensures.search kept) in
    record { went = told.0; search = search; out = told.1 }
