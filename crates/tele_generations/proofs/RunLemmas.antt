-- All lanes that ran on one table, each on its own. Serves `laws.lanes_answer_their_parts`.
use Rattle.std.proofs.Common.{◌≡◌, ℕ, ◌+◌, ◌<◌, ◌≤◌, ◌%◌, List, [], ◌∷◌, map, take, drop, length, get_or, refl, sym, ap, ◌∙◌, subst, arith, All}
use Rattle.std.specs.FinMap as fin
use Rattle.std.specs.FinMap.{same_map, nat_cmp-IsAntisymmetric}
use Rattle.std.specs.Cmp.{nat_cmp_total}
use Rattle.std.specs.List.{flat_map}
use Rattle.std.specs.List.Sorted.{IsStrictlyIncreasing}
use Rattle.std.proofs.lemmas.List.{length-map, get_or-map, take-map, drop-map, length-take, length-append}
use Rattle.std.proofs.lemmas.List.Elements.{All-take, All-drop}
use Rattle.ist_core.specs.declared.pairs.Pair.{Pair}
use Rattle.ist_core.specs.TreeTerms.{Map, map_of, replay, pairs_of}
use Rattle.ist_core.specs.LogTerms.{Each, Log, IsLegal}
use Rattle.laws_histories.specs.Telling.{map_now}
use Rattle.tele_lanes.specs.declared.task_lists.Task.{Task}
use Rattle.tele_lanes.specs.declared.answer_lists.Answer.{Answer}
use Rattle.tele_lanes.specs.Lines.{commands_of, task_lines}
use Rattle.tele_lanes.specs.Lanes.{lane_of, lane_tasks, ArePlainAnswers, AnswerAlone, InLineOrder, TasksInLineOrder}
use Rattle.tele_lanes.proofs.AloneLemmas.{Agree, answered, ArePlainAnswers-answered, InLineOrder-answered, InLineOrder-one, get-replay_lane}
use Rattle.tele_lanes.proofs.SplitLemmas.{get_or-all_lane_tasks, length-all_lane_tasks, lane_tasks-rising}
use Rattle.tele_lanes.proofs.LineLemmas.{IsStrictlyIncreasing-take}
use Rattle.tele_generations.specs.Alone.{KeepToLanes, commands_told}
use Rattle.tele_generations.specs.Runs.{LaneRun, HasRun, RanOn, told_of_runs, answers_of_runs, done_of_runs, left_of_runs, ArePlainly}
use Rattle.tele_generations.proofs.RestingListLemmas.{each_from_map, lists_alone, keys_alone}
use Rattle.tele_generations.proofs.PlainLemmas.{lane_commands-tasks, AreParts, lane_of_parts, lane_of_flat}
use Rattle.plain_map.proofs.PlaceLemmas.{adds_few_pairs}
use Rattle.tele_generations.proofs.LaneLemmas.{each_all, all_each, IsStrictlyIncreasing-drop, keeps_from, of_lane, run_asked, run_plain}

module _ (pairs : List Pair) (words : ℕ) (log : Log) (workers : ℕ) (tasks : List Task)
    (runs : List LaneRun) (r : RanOn pairs words log workers tasks runs) where
  -- there is a run for each worker
  pub runs_long : length runs ≡ workers
  runs_long = grind (arith, length-map, length-all_lane_tasks)

  -- the tasks of a run are its lane's
  pub run_tasks : (k : ℕ) (d : LaneRun) → k < workers
      → (get_or runs k d).tasks ≡ lane_tasks workers k tasks
  run_tasks k d lt = sym (get_or-map (λ run. run.tasks) runs k d d.tasks (omega (arith, runs_long)))
      ∙ ap (λ l. get_or l k d.tasks) r.lanes.lanes
      ∙ get_or-all_lane_tasks workers k tasks d.tasks lt

  -- each run has run
  pub has_run : (k : ℕ) (d : LaneRun) → k < workers → HasRun (get_or runs k d)
  has_run k d lt = r.lanes.ran k d (omega (arith, runs_long))

  -- there is a list of what was told for each worker
  told_long : length (told_of_runs runs) ≡ workers
  told_long = length-map runs (λ run. run.told) ∙ runs_long

  -- what was told of a lane has the keys of the lane
  told_kept : (k : ℕ) (d : LaneRun) → k < workers
      → Each (λ t. lane_of workers t.command ≡ k) (get_or runs k d).told
  told_kept k d lt = let run = get_or runs k d in
      let here : All (λ t. lane_of workers t.command ≡ k) (take (length run.answers) run.tasks) =
      All-take (λ t. lane_of workers t.command ≡ k) (length run.answers) run.tasks
      (subst (All (λ t. lane_of workers t.command ≡ k)) (sym (run_tasks k d lt))
      (of_lane workers k tasks)) in
      each_from_map (λ c. lane_of workers c ≡ k) (λ t. t.command) run.told
      (subst (Each (λ c. lane_of workers c ≡ k)) (sym (run_asked run (has_run k d lt)))
      (each_to_map (λ c. lane_of workers c ≡ k) (λ t. t.command)
      (take (length run.answers) run.tasks)
      (each_all (λ t. lane_of workers t.command ≡ k) (take (length run.answers) run.tasks) here)))
    where
      each_to_map : {A B : Type 0} (P : B → Type 0) (f : A → B) (xs : List A) → Each
          (λ x. P (f x)) xs → Each P (map f xs)
      each_to_map P f [] h = tt
      each_to_map P f (x ∷ xs) h = (h.0, each_to_map P f xs h.1)

  keeps : KeepToLanes (length (told_of_runs runs)) 0 (told_of_runs runs)
  keeps = subst (λ n. KeepToLanes n 0 (told_of_runs runs)) (sym told_long)
      (keeps_from workers 0 (told_of_runs runs)
      (λ k d lt. (let low : k < workers = omega (arith, told_long) in
      let none : LaneRun = record { tasks = []; told = d; answers = [] } in
      let at : get_or (told_of_runs runs) k d ≡ (get_or runs k none).told
      = get_or-map (λ run. run.told) runs k none d (omega (arith, runs_long)) in
      let zero_on : 0 + k ≡ k = omega arith in
      rw (at, zero_on) (told_kept k none low))))

  -- a lane answers the first of its tasks as one thread does
  pub lane_plain : (k : ℕ) (d : LaneRun) → k < workers → ArePlainAnswers (map_of pairs)
      (take (length (get_or runs k d).answers) (get_or runs k d).tasks) (get_or runs k d).answers
  lane_plain k d lt = run_plain (map_of pairs) (get_or runs k d) (has_run k d lt)
      (subst (IsLegal (map_of pairs))
      (get_or-map (λ run. run.told) runs k d d.told (omega (arith, runs_long)))
      (all_each (IsLegal (map_of pairs)) (told_of_runs runs)
      (lists_alone pairs words log (told_of_runs runs) r.rests keeps) k d.told
      (omega (arith, told_long))))

  -- after the changes, the lane sees what these tasks leave
  pub lane_sees : (k : ℕ) (d : LaneRun) → k < workers → Agree workers k (map_now pairs words log)
      (replay (map_of pairs)
      (commands_of (take (length (get_or runs k d).answers) (get_or runs k d).tasks)))
  lane_sees k d lt q here =
      let at : q % length (told_of_runs runs) ≡ k = ap (λ n. q % n) told_long ∙ here in
      let list : get_or (told_of_runs runs) k d.told ≡ (get_or runs k d).told
      = get_or-map (λ run. run.told) runs k d d.told (omega (arith, runs_long)) in
      let some = r.some in
      keys_alone pairs words log (told_of_runs runs) r.rests keeps (omega (arith, told_long)) q
      d.told
      ∙ ap (λ n. fin.get
      (replay (map_of pairs) (commands_told (get_or (told_of_runs runs) n d.told))) q) at
      ∙ ap (λ t. fin.get (replay (map_of pairs) (commands_told t)) q) list
      ∙ ap (λ cs. fin.get (replay (map_of pairs) cs) q)
      (run_asked (get_or runs k d) (has_run k d lt))

  -- the answered tasks are parts of the lanes
  pub done_parts : AreParts workers (done_of_runs runs)
  done_parts = record {
    len = length-map runs (λ run. take (length run.answers) run.tasks) ∙ runs_long;
    of_lane = λ k d lt. subst (All (λ t. lane_of workers t.command ≡ k)) (sym (part k d lt))
        (All-take (λ t. lane_of workers t.command ≡ k) (count k d)
        (lane_tasks workers k tasks) (of_lane workers k tasks));
    rising = λ k d lt. subst (λ ts. IsStrictlyIncreasing (task_lines ts)) (sym (part k d lt))
        (subst IsStrictlyIncreasing
        (take-map (λ t. t.line) (count k d) (lane_tasks workers k tasks))
        (IsStrictlyIncreasing-take (count k d) (task_lines (lane_tasks workers k tasks))
        (lane_tasks-rising workers k tasks r.rising)));
  }
    where
      none : List Task → LaneRun
      none d = record { tasks = d; told = []; answers = [] }

      count : ℕ → List Task → ℕ
      count k d = length (get_or runs k (none d)).answers

      part : (k : ℕ) (d : List Task) → k < workers
          → get_or (done_of_runs runs) k d ≡ take (count k d) (lane_tasks workers k tasks)
      part k d lt = grind (arith, get_or-map, none, runs_long, count, run_tasks)

  -- the tasks that are left are parts too
  pub left_parts : AreParts workers (left_of_runs runs)
  left_parts = record {
    len = length-map runs (λ run. drop (length run.answers) run.tasks) ∙ runs_long;
    of_lane = λ k d lt. subst (All (λ t. lane_of workers t.command ≡ k)) (sym (part k d lt))
        (All-drop (λ t. lane_of workers t.command ≡ k) (count k d)
        (lane_tasks workers k tasks) (of_lane workers k tasks));
    rising = λ k d lt. subst (λ ts. IsStrictlyIncreasing (task_lines ts)) (sym (part k d lt))
        (subst IsStrictlyIncreasing
        (drop-map (λ t. t.line) (count k d) (lane_tasks workers k tasks))
        (IsStrictlyIncreasing-drop (count k d) (task_lines (lane_tasks workers k tasks))
        (lane_tasks-rising workers k tasks r.rising)));
  }
    where
      none : List Task → LaneRun
      none d = record { tasks = d; told = []; answers = [] }

      count : ℕ → List Task → ℕ
      count k d = length (get_or runs k (none d)).answers

      part : (k : ℕ) (d : List Task) → k < workers
          → get_or (left_of_runs runs) k d ≡ drop (count k d) (lane_tasks workers k tasks)
      part k d lt = grind (arith, get_or-map, none, runs_long, count, run_tasks)

  -- the answered tasks of a lane, among all answered tasks
  pub done_lane : (done : List Task) → TasksInLineOrder (done_of_runs runs) done
      → (k : ℕ) (d : LaneRun) → k < workers
      → lane_tasks workers k done ≡ take (length (get_or runs k d).answers) (get_or runs k d).tasks
  done_lane done order k d lt =
      lane_of_parts workers (done_of_runs runs) done done_parts order k d.tasks lt
      ∙ get_or-map (λ run. take (length run.answers) run.tasks) runs k d d.tasks
      (omega (arith, runs_long))

  -- the tasks that a lane leaves, among all that are left
  pub left_lane : (left : List Task) → TasksInLineOrder (left_of_runs runs) left
      → (k : ℕ) (d : LaneRun) → k < workers
      → lane_tasks workers k left ≡ drop (length (get_or runs k d).answers) (get_or runs k d).tasks
  left_lane left order k d lt =
      lane_of_parts workers (left_of_runs runs) left left_parts order k d.tasks lt
      ∙ get_or-map (λ run. drop (length run.answers) run.tasks) runs k d d.tasks
      (omega (arith, runs_long))

  -- tasks of which each lane is what the lane answered lead to the map after the changes
  lanes_lead : (done : List Task)
      → ((k : ℕ) (d : LaneRun) → k < workers → lane_tasks workers k done ≡ take
      (length (get_or runs k d).answers) (get_or runs k d).tasks)
      → replay (map_of pairs) (commands_of done) ≡ map_now pairs words log
  lanes_lead done lanes = same_map nat_cmp_total nat_cmp-IsAntisymmetric _ _ same
    where
      m : Map
      m = map_of pairs

      none : LaneRun
      none = record { tasks = []; told = []; answers = [] }

      same : (q : ℕ) → fin.get (replay m (commands_of done)) q ≡ fin.get (map_now pairs words log) q
      same q = let k = q % workers in let some = r.some in let lt : k < workers = omega arith in
          get-replay_lane workers q m m (commands_of done) refl
          ∙ ap (λ cs. fin.get (replay m cs) q)
          (lane_commands-tasks workers k done ∙ ap commands_of (lanes k none lt))
          ∙ sym (lane_sees k none lt q refl)

  -- the lanes answer what was answered as one thread does
  pub done_plain : (done : List Task) → TasksInLineOrder (done_of_runs runs) done
      → (answers : List Answer) → InLineOrder (answers_of_runs runs) answers
      → ArePlainly (map_of pairs) done answers (map_now pairs words log)
  done_plain done order answers in_order = record {
    plain = subst (ArePlainAnswers m done)
        (InLineOrder-one (answers_of_runs runs) (answered m done) answers
        (InLineOrder-answered m workers done
        (answers_of_runs runs) r.some order.rising alone) in_order)
        (ArePlainAnswers-answered m done);
    leaves = lanes_lead done (done_lane done order);
  }
    where
      m : Map
      m = map_of pairs

      none : LaneRun
      none = record { tasks = []; told = []; answers = [] }

      alone : AnswerAlone m workers done (answers_of_runs runs)
      alone = record {
        len = length-map runs (λ run. run.answers) ∙ runs_long;
        each = λ k d lt. subst (ArePlainAnswers m (lane_tasks workers k done))
            (sym (get_or-map (λ run. run.answers) runs k none d (omega (arith, runs_long))))
            (subst (λ ts. ArePlainAnswers m ts (get_or runs k none).answers)
            (sym (done_lane done order k none lt)) (lane_plain k none lt));
      }

  -- the answered tasks, lane by lane, lead to the map after the changes
  pub done_leads :
      replay (map_of pairs) (commands_of (flat_map (λ tasks. tasks) (done_of_runs runs)))
      ≡ map_now pairs words log
  done_leads = lanes_lead (flat_map (λ tasks. tasks) (done_of_runs runs))
      (λ k d lt. lane_of_flat workers (done_of_runs runs) done_parts k d.tasks lt
      ∙ get_or-map (λ run. take (length run.answers) run.tasks) runs k d d.tasks
      (omega (arith, runs_long)))

  -- no more keys came than were answered
  pub keys_few : length (pairs_of (map_now pairs words log)) ≤ length (pairs_of (map_of pairs))
      + length (flat_map (λ answers. answers) (answers_of_runs runs))
  keys_few = let done : List Task = flat_map (λ tasks. tasks) (done_of_runs runs) in
      let lead = done_leads in let few = adds_few_pairs (map_of pairs) (commands_of done) in
      let long = length-map done (λ t. t.command) in let low = part_few runs in
      let same = ap (λ n. length (pairs_of n)) lead in omega arith
    where
      part_few : (xs : List LaneRun) → length (flat_map (λ tasks. tasks) (done_of_runs xs))
          ≤ length (flat_map (λ answers. answers) (answers_of_runs xs))
      part_few [] = omega arith
      part_few (x ∷ xs) = let rest = part_few xs in
          let one = length-take (length x.answers) x.tasks in
          let left = length-append (take (length x.answers) x.tasks)
          (flat_map (λ tasks. tasks) (done_of_runs xs)) in
          let right = length-append x.answers
          (flat_map (λ answers. answers) (answers_of_runs xs)) in
          omega arith
