use Rattle.ist_updates.specs.Changing.{Prepares}
use Rattle.ist_updates.proofs.PlanLemmas.{clear_planned}
use Rattle.ist_updates.proofs.changing.plan_clear.Goals as goal

-- the plan is one for the slot
pub returns-clause-planned : goal.returns-clause-planned
returns-clause-planned c = let room = c.requires.room in
    clear_planned Prepares c.args.who.now c.take.new.who c.in_ok-base.ensures.gone.went c.args.aim
    c.requires.at_slot c.in_ok-base.base c.in_ok-base.ensures.held room.0 room.1 room.2 _
    c.change_for-row.ensures.value
