use Rattle.ist_core.specs.WordTerms.{shape}
use Rattle.ist_build.proofs.block.build_at_once.Given as goal

-- the rows are the ideal subtree's
abbrev pub ghost-reserve_shape : goal.ghost-reserve_shape
ghost-reserve_shape a = shape a.size
