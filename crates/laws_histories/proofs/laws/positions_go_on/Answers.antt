use Rattle.laws_histories.proofs.ChangeLemmas.{position_on}
use Rattle.laws_histories.proofs.laws.positions_go_on.Goals as goal

pub returns : goal.returns
returns c = record { position = position_on }
