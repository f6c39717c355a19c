use Rattle.ist_core.proofs.WordLemmas.{depth-le}
use Rattle.ist_math.proofs.laws.paths_are_short.Goals as goal

pub returns : goal.returns
returns c = record { most = depth-le }
