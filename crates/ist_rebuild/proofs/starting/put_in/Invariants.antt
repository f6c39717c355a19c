use Rattle.ist_rebuild.proofs.starting.put_in.Given as goal

-- it installs the filling
abbrev pub ghost-install : goal.ghost-install
ghost-install g a = g.filling
