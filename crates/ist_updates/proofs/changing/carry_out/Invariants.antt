use Rattle.ist_updates.specs.Changing.{filling_of}
use Rattle.ist_updates.proofs.changing.carry_out.Given as goal

-- the filling is the plan's
abbrev pub ghost-install_plan : goal.ghost-install_plan
ghost-install_plan a = filling_of a.plan
