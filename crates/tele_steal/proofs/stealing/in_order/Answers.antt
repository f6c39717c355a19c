use Rattle.std.proofs.Common.{rules}
use Rattle.std.proofs.lemmas.List.Sorted.{IsNonDecreasingBy-from_sort_by_key}
use Rattle.tele_lanes.specs.declared.lanes.Lane.{Lane}
use Rattle.tele_steal.proofs.stealing.in_order.Goals as goal

-- the sort was by number
pub returns-clause-rising : goal.returns-clause-rising
returns-clause-rising g c =
    IsNonDecreasingBy-from_sort_by_key (λ (l : Lane g.row.P.Denot g.row.P-Tie.Denot). l.number) _
    c.sort_unstable_by_key.ensures.sorted (λ a r q k. search rules)
