use Rattle.ist_tree.proofs.freezing.begin.Given as goal

-- the command is the one that is given
abbrev pub ghost-begin_call : goal.ghost-begin_call
ghost-begin_call a = a.command
