use Rattle.std.proofs.Common.{refl}
use Rattle.ist_core.specs.WordTerms.{ref_of}
use Rattle.ist_core.proofs.examples.a_change_is_read.Goals as goal

pub returns-clause-undecided : goal.returns-clause-undecided
unfolding ref_of
returns-clause-undecided c = refl

pub returns-clause-decided : goal.returns-clause-decided
unfolding ref_of
returns-clause-decided c = refl
