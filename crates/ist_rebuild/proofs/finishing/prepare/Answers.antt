use Rattle.std.proofs.Common.{sym, ap, ◌∙◌, rules}
use Rattle.ist_rebuild.proofs.FewLemmas.{few_row}
use Rattle.ist_rebuild.proofs.EventLemmas.{refused_row}
use Rattle.ist_rebuild.proofs.PreparedLemmas.{has_prepared}
use Rattle.ist_rebuild.proofs.RefusalLemmas.{passed_on, row_refused}
use Rattle.ist_rebuild.proofs.SiteLemmas.{plan_good}
use Rattle.ist_rebuild.proofs.finishing.prepare.Goals as goal

-- a change row that was refused
pub returns-in_err-change-clause-helped : goal.returns-in_err-change-clause-helped
returns-in_err-change-clause-helped c = search (rules, refused_row)

pub returns-in_err-change-clause-full : goal.returns-in_err-change-clause-full
returns-in_err-change-clause-full c = let refused = c.in_err-change.ensures.full in
    passed_on c.from_residual.result _ _ c.from_residual.ensures.1 (row_refused _ _ c.args.plan.rebuild _ _ refused
    (refused_row _ _ _ _ c.requires.ready.0 c.reserve.ensures.caller.0 c.reserve.ensures.number refused).on.gone)

pub returns-in_err-change-clause-few : goal.returns-in_err-change-clause-few
returns-in_err-change-clause-few c = let e = c.reserve.ensures in
    let few = few_row c.args.who.now c.reserve.new.who _ c.reserve.result c.requires.ready.0.caller
    (sym (c.know.ensures.words ∙ ap (λ t. t.words) c.requires.ready.1)) e.held e.reserved e.full in
    search rules

-- a published rebuild has a good base
pub finish_words-words-requires : goal.finish_words-words-requires
finish_words-words-requires c = record { good = plan_good _ c.know.ensures.sound c.args.plan c.requires.plan }

-- the row was filled
pub returns : goal.returns
returns c = let e = c.in_ok-change.ensures in
    let p = has_prepared c.args.who.now c.reserve.new.who _ c.args.plan c.in_ok-change.change _
    c.requires.ready.0 c.know.ensures.sound c.requires.plan c.requires.unrefused
    record { caller = e.caller.0; number = e.number; held = e.held; fresh = e.reserved }
    c.finish_words-words.ensures.value c.fill_row.ensures.stored c.know-3.ensures.sound in
    record { helped = p.helped; few = p.few; prepared = p.prepared; full = tt }
