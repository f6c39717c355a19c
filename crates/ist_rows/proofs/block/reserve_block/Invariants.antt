use Rattle.ist_rows.proofs.block.reserve_block.Given as goal

-- the sizes are the call's
abbrev pub ghost-take_all : goal.ghost-take_all
ghost-take_all g a = g.sizes
