use Rattle.std.proofs.Common.{rules}
use Rattle.ist_updates.proofs.ChangedLemmas.{carried_changed, refused_changed}
use Rattle.ist_updates.proofs.SlotLemmas.{HasPreparedPlan, prepared}
use Rattle.ist_updates.proofs.changing.change_open.Goals as goal
use Rattle.ist_updates.proofs.changing.change_open.Goals.{After-know-2}

-- a row was refused
pub returns-in_err-plan : goal.returns-in_err-plan
returns-in_err-plan c = let e = c.in_err-plan.ensures in
    let h = refused_changed c.args.who.now c.args.aim c.args.way c.requires.asked.0 _
    c.plan_for.new.who _ e.gone e.full in
    record { changed = search rules }

-- the plan was prepared
ready : (c : After-know-2) → HasPreparedPlan c.args.who.now c.fill_rows.new.who c.args.aim c.args.way
    c.in_ok-plan.plan
ready c = prepared c.args.who.now c.plan_for.new.who c.fill_rows.new.who c.args.aim c.args.way
    c.in_ok-plan.plan c.requires.asked.0 c.requires.at_slot c.requires.unrefused
    c.in_ok-plan.ensures.gone c.in_ok-plan.ensures.planned c.fill_rows.ensures.caller
    c.know-2.ensures.sound c.fill_rows.ensures.same c.fill_rows.ensures.stored

pub carry_out-requires-clause-may_install : goal.carry_out-requires-clause-may_install
carry_out-requires-clause-may_install c =
    (ready (goal.at.carry_out-requires-clause-may_install c).After-know-2).installable

-- and carried out
pub returns : goal.returns
returns c = record {
  changed = carried_changed c.args.who.now c.args.aim c.args.way c.requires.asked.0 _
      c.fill_rows.new.who c.carry_out.new.who c.in_ok-plan.plan c.carry_out.result
      (ready (goal.at.returns c).After-know-2) c.requires.room c.carry_out.ensures.carried;
}
