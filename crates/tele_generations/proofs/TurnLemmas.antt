-- Turns of a round: what one thread would answer to the tasks that are left completes the
-- answers. Serves `laws.turns_answer_all`.
use Rattle.std.proofs.Common.{◌≡◌, ℕ, ◌+◌, ◌<◌, ◌≤◌, ◌%◌, List, [], ◌∷◌, ◌++◌, map, take, drop, length, get_or, refl, sym, ap, ◌∙◌, subst, arith}
use Rattle.std.proofs.lemmas.List.{append_assoc, append-nil, length-map, length-append, get_or-map, take-append-drop, same_lists, map-append}
use Rattle.std.proofs.lemmas.List.FromFn.{get_or-map-range_with_len, length-map-range_with_len}
use Rattle.std.specs.FinMap as fin
use Rattle.std.specs.FinMap.{same_map, nat_cmp-IsAntisymmetric}
use Rattle.std.specs.Cmp.{nat_cmp_total}
use Rattle.std.specs.List.{flat_map, range_with_len}
use Rattle.std.specs.List.Sorted.{IsPermutation, IsStrictlyIncreasing, IsNonDecreasingBy}
use Rattle.std.proofs.lemmas.List.Sorted.{length_permutation, IsPermutation-refl, IsPermutation-sym, IsPermutation-trans, IsPermutation-append_right, IsPermutation-append_left}
use Rattle.ist_core.specs.declared.pairs.Pair.{Pair}
use Rattle.ist_core.specs.TreeTerms.{Map, map_of, pairs_of, map_after, replay}
use Rattle.ist_core.specs.LogTerms.{Log}
use Rattle.laws_histories.specs.Telling.{map_now}
use Rattle.laws_histories.proofs.MapLemmas.{replay-append}
use Rattle.tele_lanes.specs.declared.task_lists.Task.{Task}
use Rattle.tele_lanes.specs.declared.answer_lists.Answer.{Answer}
use Rattle.tele_lanes.specs.Lines.{commands_of, task_lines, answer_lines}
use Rattle.tele_lanes.specs.Lanes.{lane_tasks, ArePlainAnswers, InLineOrder, TasksInLineOrder}
use Rattle.tele_lanes.proofs.AloneLemmas.{answered, ArePlainAnswers-answered, answered-from_ArePlainAnswers, picked, picked_is, IsPermutation-picked, InLineOrder-one, get-replay_lane}
use Rattle.tele_lanes.proofs.DistinctLemmas.{IsDistinct-from_increasing, sorted_rises}
use Rattle.tele_lanes.proofs.LineLemmas.{flat_map-map, line_of}
use Rattle.tele_generations.specs.Runs.{LaneRun, RanOn, answers_of_runs, left_of_runs, ArePlainly}
use Rattle.tele_generations.specs.Turns.{IsUnderWay, plain_answer}
use Rattle.plain_map.proofs.PlaceLemmas.{adds_few_pairs}
use Rattle.tele_generations.proofs.PlainLemmas.{answered-append, lane_commands-tasks, flat_map-within, flat_map-both}
use Rattle.tele_generations.proofs.RunLemmas.{runs_long, keys_few, run_tasks, lane_plain, lane_sees, left_lane}

-- ---- any turn

-- a round is under way by what one thread answers
pub under_way : (m : Map) (tasks : List Task) (answers : List Answer) (left : List Task) (now : Map)
    → IsPermutation (answers ++ answered now left) (answered m tasks)
    → replay now (commands_of left) ≡ replay m (commands_of tasks)
    → length (pairs_of now) + length left ≤ length (pairs_of m) + length tasks
    → IsUnderWay m tasks answers left now
under_way m tasks answers left now same leaves few =
    grind (arith, answered-from_ArePlainAnswers, answered)

-- before the first turn all tasks are left
pub round_begins : (m : Map) (tasks : List Task) → IsUnderWay m tasks [] tasks m
round_begins m tasks = under_way m tasks [] tasks m (IsPermutation-refl (answered m tasks)) refl
    (omega arith)

-- a turn goes on from those before it
pub round_goes_on : (m now later : Map) (tasks left after : List Task) (answers more : List Answer)
    → IsUnderWay m tasks answers left now → IsUnderWay now left more after later
    → IsUnderWay m tasks (answers ++ more) after later
round_goes_on m now later tasks left after answers more one two = record {
  completes = λ rest all plain_rest plain_all. let middle = ArePlainAnswers-answered now left in
      subst (λ xs. IsPermutation xs all) (sym (append_assoc answers more rest))
      (IsPermutation-trans _ _ _
      (IsPermutation-append_right answers (more ++ rest) (answered now left)
      (two.completes rest (answered now left) plain_rest middle))
      (one.completes (answered now left) all middle plain_all));
  leaves = two.leaves ∙ one.leaves;
  few = (let first = one.few in let second = two.few in omega arith);
}

-- a turn of one thread that answers only the first line
pub one_line : (m : Map) (task : Task) (tasks : List Task)
    → IsUnderWay m (task ∷ tasks) (plain_answer m task ∷ []) tasks (map_after m task.command)
one_line m task tasks =
    under_way m (task ∷ tasks) (plain_answer m task ∷ []) tasks (map_after m task.command)
    (IsPermutation-refl (answered m (task ∷ tasks))) refl
    (let few = adds_few_pairs m (task.command ∷ []) in omega arith)

-- there is an answer of one thread for each task
length-answered : (m : Map) (tasks : List Task) → length (answered m tasks) ≡ length tasks
length-answered m tasks = sym (length-map (answered m tasks) (λ a. a.line)) ∙ ap length
    (ArePlainAnswers-answered m tasks).lines ∙ length-map tasks (λ t. t.line)

-- each task is answered or left
counted : (m : Map) (tasks : List Task) (answers : List Answer) (left : List Task) (now : Map)
    → IsPermutation (answers ++ answered now left) (answered m tasks)
    → length answers + length left ≡ length tasks
counted m tasks answers left now same =
    grind (arith, length-append, answered, length_permutation, length-answered)

-- each task is answered or left
pub tasks_counted : (m now : Map) (tasks left : List Task) (answers : List Answer)
    → IsUnderWay m tasks answers left now → length answers + length left ≡ length tasks
tasks_counted m now tasks left answers way = counted m tasks answers left now
    (way.completes (answered now left) (answered m tasks) (ArePlainAnswers-answered now left)
    (ArePlainAnswers-answered m tasks))

-- ---- the end

-- answers that are one thread's in some order, sorted by line, are one thread's answers
pub sorted_plain : (m : Map) (tasks : List Task) (all : List Answer)
    → IsStrictlyIncreasing (task_lines tasks)
    → IsPermutation (answered m tasks) all → IsNonDecreasingBy (λ a. a.line) all
    → ArePlainAnswers m tasks all
sorted_plain m tasks all up same rise = let own = ArePlainAnswers-answered m tasks in
    let lists : List (List Answer) = answered m tasks ∷ [] in
    let rising : IsStrictlyIncreasing (answer_lines (answered m tasks)) =
    subst IsStrictlyIncreasing (sym own.lines) up in
    let flat : flat_map (λ answers. answers) lists ≡ answered m tasks = append-nil
    (answered m tasks) in
    let same_all : IsPermutation (flat_map (λ answers. answers) lists) all =
    subst (λ xs. IsPermutation xs all) (sym flat) same in
    let strictly : IsStrictlyIncreasing (answer_lines all) =
    sorted_rises line_of (answered m tasks) all
    (IsDistinct-from_increasing (answer_lines (answered m tasks)) rising) same rise in
    subst (ArePlainAnswers m tasks)
    (InLineOrder-one lists (answered m tasks) all
    record {
      same = subst (λ xs. IsPermutation xs (answered m tasks)) (sym flat)
          (IsPermutation-refl (answered m tasks));
      rising = rising;
    }
    record { same = same_all; rising = strictly })
    own

-- if nothing is left, the answers sorted by line are one thread's
pub round_ends : (m now : Map) (tasks : List Task) (answers all : List Answer)
    → IsStrictlyIncreasing (task_lines tasks) → IsUnderWay m tasks answers [] now
    → IsPermutation answers all → IsNonDecreasingBy (λ a. a.line) all → ArePlainly m tasks all now
round_ends m now tasks answers all up way same rise =
    let whole : IsPermutation (answers ++ []) (answered m tasks) =
    way.completes [] (answered m tasks) record { lines = refl; replies = refl }
    (ArePlainAnswers-answered m tasks) in
    let own : IsPermutation answers (answered m tasks) =
    subst (λ xs. IsPermutation xs (answered m tasks)) (append-nil answers) whole in
    record {
      plain = sorted_plain m tasks all up
          (IsPermutation-trans _ _ _ (IsPermutation-sym answers (answered m tasks) own) same) rise;
      leaves = sym way.leaves;
    }

-- ---- a turn of lanes

module _ (pairs : List Pair) (words : ℕ) (log : Log) (workers : ℕ) (tasks : List Task)
    (runs : List LaneRun) (r : RanOn pairs words log workers tasks runs) where
  m : Map
  m = map_of pairs

  now : Map
  now = map_now pairs words log

  none : LaneRun
  none = record { tasks = []; told = []; answers = [] }

  -- what the lane answered, and what it left
  mine : ℕ → List Answer
  mine k = (get_or runs k none).answers

  done : ℕ → List Task
  done k = take (length (mine k)) (get_or runs k none).tasks

  rest : ℕ → List Task
  rest k = drop (length (mine k)) (get_or runs k none).tasks

  -- the tasks of the lane are those that it answered and those that it left
  lane_is : (k : ℕ) → k < workers → lane_tasks workers k tasks ≡ done k ++ rest k
  unfolding mine done rest none
  lane_is k lt = sym (run_tasks pairs words log workers tasks runs r k none lt)
      ∙ sym (take-append-drop (length (mine k)) (get_or runs k none).tasks)

  module _ (left : List Task) (order : TasksInLineOrder (left_of_runs runs) left) where
    -- of one thread's answers to all tasks, the lane has made its own, and the answers to what it
    -- left are still to come
    lane_splits : (k : ℕ) → k < workers → picked workers k m tasks ≡ mine k
        ++ picked workers k now left
    unfolding mine done rest none m now
    lane_splits k lt = let p : Map = replay m (commands_of (done k)) in
        let own : mine k ≡ answered m (done k) =
        answered-from_ArePlainAnswers m (done k) (mine k)
        (lane_plain pairs words log workers tasks runs r k none lt) in
        let to_come : picked workers k now left ≡ answered p (rest k) =
        picked_is workers k now p left (lane_sees pairs words log workers tasks runs r k none lt)
        ∙ ap (answered p) (left_lane pairs words log workers tasks runs r left order k none lt) in
        picked_is workers k m m tasks (λ q h. refl)
        ∙ ap (answered m) (lane_is k lt)
        ∙ answered-append m (done k) (rest k)
        ∙ ap (λ xs. xs ++ answered p (rest k)) (sym own)
        ∙ ap (λ xs. mine k ++ xs) (sym to_come)

    -- the answers of all lanes, with the answers to what is left, are one thread's
    answers_complete : IsPermutation
        (flat_map (λ answers. answers) (answers_of_runs runs) ++ answered now left)
        (answered m tasks)
    unfolding mine done rest none m now
    answers_complete = let range = range_with_len 0 workers in
        let coming : ℕ → List Answer = λ k. picked workers k now left in
        let long = runs_long pairs words log workers tasks runs r in
        let lists : answers_of_runs runs ≡ map mine range =
        same_lists (answers_of_runs runs) (map mine range)
        (length-map runs (λ run. run.answers) ∙ long ∙ sym
        (length-map-range_with_len mine 0 workers))
        (λ k d h. let lt : k < workers = omega (arith, length-map runs (λ run. run.answers)) in
        get_or-map (λ run. run.answers) runs k none d (omega arith)
        ∙ sym (get_or-map-range_with_len mine 0 workers k k d lt (omega arith))) in
        let flat : flat_map (λ answers. answers) (answers_of_runs runs) ≡ flat_map mine range =
        ap (flat_map (λ answers. answers)) lists ∙ flat_map-map mine range in
        let split : flat_map (λ k. picked workers k m tasks) range ≡ flat_map
        (λ k. mine k ++ coming k) range =
        flat_map-within (λ k. picked workers k m tasks) (λ k. mine k ++ coming k) 0 workers
        (λ k low high. lane_splits k (omega arith)) in
        subst (λ xs. IsPermutation (xs ++ answered now left) (answered m tasks)) (sym flat)
        (IsPermutation-trans _ _ _
        (IsPermutation-append_right (flat_map mine range) (answered now left)
        (flat_map coming range)
        (IsPermutation-sym _ _ (IsPermutation-picked workers now left r.some)))
        (IsPermutation-trans _ _ _ (IsPermutation-sym _ _ (flat_map-both mine coming range))
        (subst (λ xs. IsPermutation xs (answered m tasks)) split
        (IsPermutation-picked workers m tasks r.some))))

    -- the tasks that are left lead to the map after all
    left_leaves : replay now (commands_of left) ≡ replay m (commands_of tasks)
    unfolding mine done rest none m now
    left_leaves = same_map nat_cmp_total nat_cmp-IsAntisymmetric _ _ same
      where
        same : (q : ℕ) → fin.get (replay now (commands_of left)) q ≡ fin.get
            (replay m (commands_of tasks)) q
        same q = let k = q % workers in let some = r.some in let lt : k < workers = omega arith in
            let p : Map = replay m (commands_of (done k)) in
            get-replay_lane workers q now p (commands_of left)
            (lane_sees pairs words log workers tasks runs r k none lt q refl)
            ∙ ap (λ cs. fin.get (replay p cs) q)
            (lane_commands-tasks workers k left ∙ ap commands_of
            (left_lane pairs words log workers tasks runs r left order k none lt))
            ∙ ap (λ n. fin.get n q)
            (sym (replay-append m (commands_of (done k)) (commands_of (rest k))))
            ∙ ap (λ cs. fin.get (replay m cs) q)
            (sym (map-append (λ t. t.command) (done k) (rest k)) ∙ ap commands_of
            (sym (lane_is k lt)) ∙ sym (lane_commands-tasks workers k tasks))
            ∙ sym (get-replay_lane workers q m m (commands_of tasks) refl)

  -- a turn of lanes
  pub lanes_turn : (answers : List Answer) → InLineOrder (answers_of_runs runs) answers →
      (left : List Task) → TasksInLineOrder (left_of_runs runs) left
      → IsUnderWay (map_of pairs) tasks answers left (map_now pairs words log)
  unfolding m now
  lanes_turn answers in_order left order = under_way m tasks answers left now
      (IsPermutation-trans _ _ _
      (IsPermutation-append_left (answered now left) answers
      (flat_map (λ xs. xs) (answers_of_runs runs)) (IsPermutation-sym _ _ in_order.same))
      (answers_complete left order))
      (left_leaves left order)
      (let few = keys_few pairs words log workers tasks runs r in
      let all = counted m tasks (flat_map (λ xs. xs) (answers_of_runs runs)) left now
      (answers_complete left order) in
      omega arith)
