use Rattle.ist_updates.proofs.changing.install_plan.Given as goal

-- it installs the same filling
abbrev pub ghost-install : goal.ghost-install
ghost-install g a = g.filling
