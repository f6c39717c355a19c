-- How many tasks lanes answered and left. Serves `run_round`.
use Rattle.std.proofs.Common.{◌≡◌, inl, inr, ◌<◌, ◌≤◌, ℕ, zero, suc, List, [], ◌∷◌, take, drop, length, refl, sym, subst, arith, All, Contains, Some, slice_get}
use Rattle.std.specs.List.{flat_map}
use Rattle.std.proofs.lemmas.List.{length-map, length-take, length-append}
use Rattle.std.proofs.lemmas.List.Elements.{All-head, All-tail}
use Rattle.tele_lanes.specs.declared.task_lists.Task.{Task}
use Rattle.tele_lanes.specs.Lanes.{unanswered}
use Rattle.tele_lanes.proofs.SplitLemmas.{Contains-cons_cases}
use Rattle.tele_generations.specs.Runs.{LaneRun, HasRun, answers_of_runs, done_of_runs, left_of_runs}
use Rattle.tele_generations.specs.Generations.{all_done}

-- a lane has no more answers than tasks
answered_within : (run : LaneRun) → HasRun run → length run.answers ≤ length run.tasks
answered_within run h = grind (arith, length-map, length-take)

-- as many tasks were answered as there are answers
pub length-all_done : (runs : List LaneRun) → All HasRun runs
    → length (all_done runs) ≡ length (flat_map (λ answers. answers) (answers_of_runs runs))
length-all_done [] h = refl
length-all_done (run ∷ runs) h = let rest = length-all_done runs (All-tail HasRun run runs h) in
    let one = length-take (length run.answers) run.tasks in
    let within = answered_within run (All-head HasRun run runs h) in
    let left = length-append (take (length run.answers) run.tasks)
    (flat_map (λ tasks. tasks) (done_of_runs runs)) in
    let right = length-append run.answers (flat_map (λ answers. answers) (answers_of_runs runs)) in
    omega arith

-- something is left from a place on, if the list has an element there
drop_some : (xs : List Task) (n : ℕ) (x : Task) → slice_get xs n ≡ Some x → 0 < length (drop n xs)
drop_some [] n x e = cc
drop_some (y ∷ xs) zero x e = omega arith
drop_some (y ∷ xs) (suc n) x e = drop_some xs n x e

-- lanes of which one has a next task leave some
pub left_some : (runs : List LaneRun) (run : LaneRun) (task : Task) → Contains runs run
    → slice_get run.tasks (length run.answers) ≡ Some task
    → 0 < length (flat_map (λ tasks. tasks) (left_of_runs runs))
left_some [] run task (k, h, e) next = absurd (omega arith)
left_some (x ∷ runs) run task c next =
    let both = length-append (unanswered x.tasks x.answers)
    (flat_map (λ tasks. tasks) (left_of_runs runs)) in
    elim (Contains-cons_cases x runs run c) [
      | inl same ↦
          (let here : 0 < length (unanswered x.tasks x.answers)
          = subst (λ r. 0 < length (unanswered r.tasks r.answers)) (sym same)
          (drop_some run.tasks (length run.answers) task next) in
          omega arith)
      | inr later ↦ (let there = left_some runs run task later next in omega arith)
    ]
