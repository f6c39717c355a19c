use Rattle.ist_math.proofs.GallopLemmas.{end-near, end-far}
use Rattle.ist_math.proofs.laws.gallops_are_short.Goals as goal

pub returns-clause-near : goal.returns-clause-near
returns-clause-near c = end-near

pub returns-clause-far : goal.returns-clause-far
returns-clause-far c = end-far
