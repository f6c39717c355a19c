use Rattle.ist_math.proofs.GallopLemmas.{guess_of-le, guess_of-between}
use Rattle.ist_math.proofs.laws.guess_lies_within.Goals as goal

pub returns-clause-within : goal.returns-clause-within
returns-clause-within c = guess_of-le

pub returns-clause-between : goal.returns-clause-between
returns-clause-between c = guess_of-between
