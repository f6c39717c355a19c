use Rattle.ist_rebuild.specs.StartSteps.{start_filling}
use Rattle.ist_rebuild.proofs.starting.start_open.Given as goal

-- the change is the start that was planned
abbrev pub ghost-put_in : goal.ghost-put_in
ghost-put_in a =
    start_filling a.who.now.number a.plan.parent a.plan.index a.plan.target a.plan.rows.rebuild
