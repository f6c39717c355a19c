use Rattle.laws_calls.proofs.CountedLemmas.{may_count}
use Rattle.laws_calls.proofs.UpLemmas.{counts_from, may_count_up}
use Rattle.laws_calls.proofs.walks.updates_may_be_counted.Goals as goal

pub returns : goal.returns
returns c = record {
  once = λ pairs words earlier log l. may_count pairs words l.opens earlier log l.enabled;
  up = λ pairs words earlier log l. may_count_up pairs words l.opens earlier log l.enabled;
  from = counts_from;
}
