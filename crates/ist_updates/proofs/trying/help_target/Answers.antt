use Rattle.std.proofs.Common.{rules, Ok, ap, ◌∙◌}
use Rattle.ist_rows.proofs.GoneLemmas.{gone_all}
use Rattle.ist_rebuild.specs.Going.{ServesRebuild}
use Rattle.ist_updates.specs.Trying.{Tries}
use Rattle.ist_updates.proofs.StepLemmas.{asked_served, serves_tries}
use Rattle.ist_updates.proofs.ChangedLemmas.{slot_started, help_refused, refused_still}
use Rattle.ist_updates.proofs.AfterLemmas.{after_went}
use Rattle.ist_updates.proofs.FurtherLemmas.{target_further}
use Rattle.ist_updates.proofs.TryResultLemmas.{again_tried, refused_tried}
use Rattle.ist_updates.proofs.trying.help_target.Goals as goal

-- the rebuild was started
pub help_rebuild-requires-clause-started : goal.help_rebuild-requires-clause-started
help_rebuild-requires-clause-started c =
    slot_started _ c.know.ensures.sound c.args.aim.key c.args.aim.node c.args.aim.index
    c.args.aim.word c.args.base c.requires.at_slot c.requires.rebuild

-- its help was refused
pub returns-in_err-help_rebuild-clause-tried : goal.returns-in_err-help_rebuild-clause-tried
returns-in_err-help_rebuild-clause-tried c = let on = c.help_rebuild.ensures.helped.on in
    let still = asked_served _ _ _ c.requires.asked.0 on.gone on.quiet.resolved in
    let h = refused_tried _ _ c.args.aim c.args.update.value _ _
    (gone_all ServesRebuild Tries serves_tries _ _ on.gone) (refused_still c.args.who.now c.help_rebuild.new.who c.args.aim.key c.args.update.value _ _ still
    (help_refused _ c.know.ensures.sound c.args.aim.key c.args.aim.node c.args.aim.index
    c.args.aim.word c.args.base c.requires.at_slot c.requires.rebuild c.args.update.value _ _ _
    c.in_err-help_rebuild.ensures.full)) in
    search rules

-- or it was replaced, or its parent is marked
pub returns-clause-tried : goal.returns-clause-tried
returns-clause-tried c = let h = c.help_rebuild.ensures in let on = h.helped.on in
    let was = c.in_ok-help_rebuild.was in
    again_tried _ _ c.args.aim c.args.update.value _ (gone_all ServesRebuild Tries serves_tries _ _ on.gone)
    (asked_served _ _ _ c.requires.asked.0 on.gone on.quiet.resolved)
    (λ first aimed. target_further first _ _ _ _ _ aimed (after_went ServesRebuild _ _ on.gone.went)
    on.gone.went.sound c.args.base c.requires.rebuild c.in_ok-help_rebuild.field-0
    (λ e. h.replaced (was ∙ ap Ok e)) (λ e. h.parent_marked (was ∙ ap Ok e)))
