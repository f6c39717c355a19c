use Rattle.ist_core.specs.WordTerms.{start}
use Rattle.laws_histories.proofs.ChangeLemmas.{changes_on}
use Rattle.laws_histories.proofs.CallLemmas.{stand_on, keep_calls}
use Rattle.laws_histories.proofs.laws.calls_stand_on.Goals as goal

pub returns : goal.returns
returns c = record {
  front = λ pairs words earlier log g. (let on = changes_on (start pairs words) earlier log g in record { more = on.0; are = on.1 });
  stand = stand_on;
  keep = keep_calls;
}
