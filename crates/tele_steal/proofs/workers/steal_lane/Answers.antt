use Rattle.std.proofs.Common.{subst, rules, arith, ◌≡◌, []}
use Rattle.std.proofs.lemmas.List.{nil_from_length}
use Rattle.tele_steal.proofs.TallyLemmas.{takes}
use Rattle.tele_steal.specs.Tallies.{Balances}
use Rattle.tele_steal.specs.Runs.{IsNewLane}
use Rattle.tele_steal.proofs.workers.steal_lane.Goals as goal

-- the pass is a worker's
pub steal_as-requires-clause-takes : goal.steal_as-requires-clause-takes
steal_as-requires-clause-takes g c = takes _ _ _ (search rules)

-- an empty deque teaches the lesson
pub steal_as-requires-clause-empty : goal.steal_as-requires-clause-empty
steal_as-requires-clause-empty g c items views few b at =
    let none : items ≡ [] = nil_from_length items
    (let first = c.requires.first_in in omega (arith, few, first)) in c.requires.lesson views _ _
    (subst (λ z. Balances (IsNewLane g.P.Port.calls g.P.Port.refused) z views) none b) at
