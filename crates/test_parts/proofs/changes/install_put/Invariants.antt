use Rattle.test_parts.proofs.changes.install_put.Given as goal

-- it installs the same filling
abbrev pub ghost-install : goal.ghost-install
ghost-install g a = g.filling

-- the command is the one that is given
abbrev pub ghost-begin_call : goal.ghost-begin_call
ghost-begin_call g a = a.command
