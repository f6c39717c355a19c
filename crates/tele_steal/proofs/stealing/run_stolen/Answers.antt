use Rattle.std.proofs.Common.{ap, ◌∙◌}
use Rattle.tele_steal.specs.Runs.{IsRunLane}
use Rattle.std.proofs.lemmas.List.Sorted.{All-permutation}
use Rattle.tele_steal.proofs.OrderLemmas.{at_home, same_on}
use Rattle.tele_steal.proofs.stealing.run_stolen.Goals as goal

-- each lane is fresh
pub run_shared-shared-requires-clause-fresh : goal.run_shared-shared-requires-clause-fresh
run_shared-shared-requires-clause-fresh g c κs within k d h = record {
  empty = c.requires.empty k d h;
  room = c.requires.room k d h;
  no_calls = c.requires.no_calls k d h;
  unrefused = c.requires.unrefused k d h;
}

-- each lane came back to its place, and was run
pub returns : goal.returns
returns g c = let tie = g.P.Port.tie in let old = c.args.lanes.items in
    let new = c.in_order.result.items in
    let home = at_home tie old c.run_shared-shared.result.items new c.requires.numbers
    c.run_shared-shared.ensures.tickets c.in_order.ensures.same c.in_order.ensures.rising in
    let ran = All-permutation (IsRunLane g.P.Port.calls g.P.Port.refused)
    c.run_shared-shared.result.items new c.in_order.ensures.same c.run_shared-shared.ensures.ran in
    record {
      numbers = same_on tie (λ k. k.number) old new home;
      tasks = same_on tie (λ k. k.tasks) old new home;
      ties = same_on tie (λ k. k.tie) old new home;
      calls = λ k d h. (ran k d h).calls;
      answers = λ k d h. (ran k d h).answers;
      replies = λ k d h. (ran k d h).replies;
      stopped = λ k d h. (ran k d h).stopped;
      refused = λ k d h. (ran k d h).refused;
      whole = λ k d h. (ran k d h).whole;
      yard = ap (λ n. record { workers = n; lanes = c.yard.inside.lanes })
          c.run_shared-shared.ensures.count ∙ c.yard.view_is;
    }
