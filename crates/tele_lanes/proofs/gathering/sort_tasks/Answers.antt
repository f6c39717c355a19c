use Rattle.std.proofs.Common.{rules}
use Rattle.std.proofs.lemmas.List.Sorted.{IsNonDecreasingBy-from_sort_by_key}
use Rattle.tele_lanes.proofs.gathering.sort_tasks.Goals as goal

pub returns-clause-rising : goal.returns-clause-rising
returns-clause-rising c = rw c.from_vec.ensures.value
    (IsNonDecreasingBy-from_sort_by_key (λ x. x.line) _ c.in_ok-sort_by_key.ensures.sorted
    (λ a r q k. search rules))
