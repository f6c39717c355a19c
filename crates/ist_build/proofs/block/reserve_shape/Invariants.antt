use Rattle.ist_build.proofs.block.reserve_shape.Given as goal

-- the sizes are the call's
abbrev pub ghost-reserve_block : goal.ghost-reserve_block
ghost-reserve_block g a = g.sizes
