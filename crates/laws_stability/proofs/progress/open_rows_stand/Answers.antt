use Rattle.laws_stability.proofs.StandingLemmas.{open_stands_for}
use Rattle.laws_stability.proofs.progress.open_rows_stand.Goals as goal

pub returns : goal.returns
returns c = record {
  stand = λ pairs words earlier log l. open_stands_for pairs words l.opens earlier log l.enabled;
}
