use Rattle.test_rebuilds.proofs.late.install_late.Given as goal

-- it installs the same filling
abbrev pub ghost-install : goal.ghost-install
ghost-install g a = g.filling
