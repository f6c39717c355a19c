use Rattle.std.proofs.Common.{ap, ◌∙◌}
use Rattle.ist_updates.proofs.HelpedChangeLemmas.{carried_help}
use Rattle.ist_updates.proofs.PlanResultLemmas.{helped_carried, missed_carried}
use Rattle.ist_updates.proofs.changing.carry_out.Goals as goal

-- the slot held another word
pub returns-then-not-install_plan : goal.returns-then-not-install_plan
returns-then-not-install_plan c =
    let r = c.requires in let p = c.install_plan.ensures in let is = c.if-not-install_plan.true in
    record { carried = missed_carried _ _ r.caller.0 r.may_install p.caller p.number p.refused (p.no is) (p.other is) }

-- an installed change is helped
pub help-requires-clause-same_table : goal.help-requires-clause-same_table
help-requires-clause-same_table c =
    let i = c.install_plan.ensures.yes c.if-not-install_plan.false in
    ap (λ v. v.table) i.logged.view ∙ ap (λ v. v.table) i.seen.same ∙ c.requires.caller.1

pub help-requires-clause-may_help : goal.help-requires-clause-may_help
help-requires-clause-may_help c =
    let p = c.install_plan.ensures in carried_help c.args.who.now _ _ p.caller (p.yes c.if-not-install_plan.false)

-- it was decided yes
pub returns-in-Yes : goal.returns-in-Yes
returns-in-Yes c = let r = c.requires in let p = c.install_plan.ensures in let h = c.help.ensures in
    record {
      carried = helped_carried _ _ _ _ r.caller.0 c.know.ensures.sound r.rows r.update r.may_install p.caller
          p.refused p.number (p.yes c.if-not-install_plan.false) h.went h.out _ (rw c.in-Yes.is at h.decided);
    }

-- or no
pub returns-in-No : goal.returns-in-No
returns-in-No c = let r = c.requires in let p = c.install_plan.ensures in let h = c.help.ensures in
    record {
      carried = helped_carried _ _ _ _ r.caller.0 c.know.ensures.sound r.rows r.update r.may_install p.caller
          p.refused p.number (p.yes c.if-not-install_plan.false) h.went h.out _ (rw c.in-No.is at h.decided);
    }
