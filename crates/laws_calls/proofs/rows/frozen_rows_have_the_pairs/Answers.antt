use Rattle.laws_calls.proofs.FinishLemmas.{frozen_pairs}
use Rattle.laws_calls.proofs.rows.frozen_rows_have_the_pairs.Goals as goal

pub returns : goal.returns
returns c = record {
  pairs = λ pairs words earlier log l on. frozen_pairs pairs words l.opens earlier log on l.enabled;
}
