-- Lanes that answered all of their tasks. Serves `laws.lanes_answer_their_parts`.
use Rattle.std.proofs.Common.{◌≡◌, ℕ, ◌==◌, Bool, true, false, cond, List, [], ◌∷◌, drop, length, get_or, refl, ap, ◌∙◌, ◌++◌, arith, All, inl, inr, ◌+◌, ◌<◌, ◌≤◌, Option}
use Rattle.std.proofs.lemmas.List.{drop-drop, length-map, drop_all, nil_from_length}
use Rattle.ist_core.specs.declared.pairs.Pair.{Pair}
use Rattle.ist_core.specs.declared.ports.Full.{Full}
use Rattle.ist_core.specs.LogTerms.{Log}
use Rattle.tele_lanes.specs.declared.task_lists.Task.{Task}
use Rattle.tele_lanes.specs.Lanes.{lane_of, lane_tasks, TasksInLineOrder, InLineOrder}
use Rattle.tele_generations.specs.Runs.{LaneRun, RanOn, left_of_runs, HasRun, LanesRan, AreWhole, answers_of_runs, ArePlainly, told_of_runs}
use Rattle.tele_generations.specs.Suffixes.{LeavesSuffixes}
use Rattle.tele_generations.proofs.RunLemmas.{run_tasks, left_lane, done_leads}
use Rattle.std.specs.List.{flat_map}
use Rattle.std.specs.List.Sorted.{IsStrictlyIncreasing}
use Rattle.std.proofs.lemmas.List.Elements.{All-head, All-tail}
use Rattle.std.proofs.lemmas.List.Sorted.{IsPermutation-refl, length_permutation}
use Rattle.ist_core.specs.TreeTerms.{map_of, Map, pairs_of, replay}
use Rattle.laws_histories.specs.Telling.{map_now}
use Rattle.tele_lanes.specs.declared.answer_lists.Answer.{Answer}
use Rattle.tele_lanes.specs.Lines.{task_lines, commands_of}
use Rattle.tele_lanes.proofs.LineLemmas.{Rise-from_increasing}
use Rattle.tele_generations.proofs.TurnLemmas.{lanes_turn, round_ends, tasks_counted}
use Rattle.std.proofs.lemmas.List.Sums.{count_by-le-length}
use Rattle.ist_core.proofs.AllPlaceLemmas.{map_of-pairs_of}
use Rattle.laws_histories.proofs.ContentLemmas.{pairs_rise_at}
use Rattle.tele_generations.specs.Turns.{IsUnderWay}
use Rattle.plain_map.specs.Rising.{IsRising}
use Rattle.plain_map.proofs.PlaceLemmas.{pairs_of-map_of}
use Rattle.tele_generations.specs.Generations.{RanFull, MayAsk, all_done, puts_done}
use Rattle.tele_generations.specs.Tables.{RanOnTable, HasPairs}
use Rattle.tele_generations.proofs.DoneLemmas.{length-all_done, left_some}

-- ---- what turns leave of each lane. Serves `laws.turns_leave_suffixes`.

-- all tasks are suffixes
pub suffixes_begin : (workers : ℕ) (tasks : List Task) → LeavesSuffixes workers tasks tasks
suffixes_begin workers tasks = λ lane lt. (0, refl)

-- suffixes of suffixes are suffixes
pub suffixes_go_on : (workers : ℕ) (tasks left after : List Task)
    → LeavesSuffixes workers tasks left → LeavesSuffixes workers left after
    → LeavesSuffixes workers tasks after
suffixes_go_on workers tasks left after one two = λ lane lt.
    let a = one lane lt in let b = two lane lt in
    (_, b.1 ∙ ap (drop b.0) a.1 ∙ drop-drop b.0 a.0 (lane_tasks workers lane tasks))

-- lanes that ran leave suffixes
pub lanes_leave : (pairs : List Pair) (words : ℕ) (log : Log) (workers : ℕ) (tasks : List Task)
    (runs : List LaneRun) → RanOn pairs words log workers tasks runs
    → (left : List Task) → TasksInLineOrder (left_of_runs runs) left
    → LeavesSuffixes workers tasks left
lanes_leave pairs words log workers tasks runs r left order = λ lane lt.
    let none : LaneRun = record { tasks = []; told = []; answers = [] } in
    let n = length (get_or runs lane none).answers in (
      n,
      left_lane pairs words log workers tasks runs r left order lane none lt ∙ ap (drop n)
          (run_tasks pairs words log workers tasks runs r lane none lt),
    )

-- one thread's answer to the first line leaves suffixes
pub line_leaves : (workers : ℕ) (task : Task) (tasks : List Task) → LeavesSuffixes workers
    (task ∷ tasks) tasks
line_leaves workers task tasks = λ lane lt. at lane (lane_of workers task.command == lane)
  where
    at : (lane : ℕ) (b : Bool)
        → (count : ℕ) × (lane_tasks workers lane tasks ≡ drop count
        (cond b (task ∷ lane_tasks workers lane tasks) (lane_tasks workers lane tasks)))
    at lane true = (1, refl)
    at lane false = (0, refl)

-- a lane that was told as much as it has tasks leaves none
none_left : (run : LaneRun) → HasRun run → length run.told ≡ length run.tasks
    → drop (length run.answers) run.tasks ≡ []
none_left run h whole = grind (arith, length-map, drop_all)

-- all such lanes leave none
all_none_left : (runs : List LaneRun) → All HasRun runs → AreWhole runs
    → flat_map (λ tasks. tasks) (left_of_runs runs) ≡ []
all_none_left [] h whole = refl
all_none_left (run ∷ runs) h whole =
    let P : LaneRun → Type 0 = λ x. length x.told ≡ length x.tasks in
    ap (λ l. l ++ flat_map (λ tasks. tasks) (left_of_runs runs))
    (none_left run (All-head HasRun run runs h) (All-head P run runs whole))
    ∙ all_none_left runs (All-tail HasRun run runs h) (All-tail P run runs whole)

-- if each lane answered all, nothing is left
pub nothing_left : (workers : ℕ) (tasks : List Task) (runs : List LaneRun)
    → LanesRan workers tasks runs → AreWhole runs → TasksInLineOrder (left_of_runs runs) []
nothing_left workers tasks runs r whole = grind (arith, all_none_left, IsPermutation-refl)

-- if each lane answered all, the answers are one thread's
pub whole_plain : (pairs : List Pair) (words : ℕ) (log : Log) (workers : ℕ) (tasks : List Task)
    (runs : List LaneRun) → RanOn pairs words log workers tasks runs → AreWhole runs
    → (answers : List Answer) → InLineOrder (answers_of_runs runs) answers
    → ArePlainly (map_of pairs) tasks answers (map_now pairs words log)
whole_plain pairs words log workers tasks runs r whole answers order =
    round_ends (map_of pairs) (map_now pairs words log) tasks answers answers r.rising
    (lanes_turn pairs words log workers tasks runs r answers order []
    (nothing_left workers tasks runs r.lanes whole))
    (IsPermutation-refl answers) (Rise-from_increasing answers order.rising)

-- ---- the result of one generation, by the log of its table. Serves `run_round`.

-- what may be asked for with this many keys may be asked for with more
pub asks_more : (keys more asked : ℕ) → keys ≤ more → MayAsk keys asked → MayAsk more asked
asks_more keys more asked le (inl a) = inl a
asks_more keys more asked le (inr (inl a)) = inr (inl a)
asks_more keys more asked le (inr (inr (inl a))) = inr (inr (inl a))
asks_more keys more asked le (inr (inr (inr (k, two, most, is)))) = grind arith

module _ (workers words : ℕ) (now : List Pair) (left : List Task) (table : List ℕ)
    (more : List Answer) (rest : List Task) (full : Option Full)
    (r : RanOnTable workers words now left table more rest full) (some : 1 ≤ workers)
    (up : IsStrictlyIncreasing (task_lines left)) where
  -- the log of the table
  abbrev pub table_log : Log
  table_log = r.is.stands.log

  -- the map after its changes
  abbrev pub table_map : Map
  table_map = map_now now (length table) table_log

  -- the lanes ran on it
  pub ran : RanOn now (length table) table_log workers left r.runs
  ran = grind arith

  -- the lanes took a turn
  pub turn : IsUnderWay (map_of now) left more rest table_map
  turn = lanes_turn now (length table) table_log workers left r.runs ran more r.answered rest
      r.left_are

  -- the lanes left suffixes
  pub leaves : LeavesSuffixes workers left rest
  leaves = lanes_leave now (length table) table_log workers left r.runs ran rest r.left_are

  -- the answered tasks lead to the map
  pub leads : replay (map_of now) (commands_of (all_done r.runs)) ≡ table_map
  leads = done_leads now (length table) table_log workers left r.runs ran

  -- there is an answer for each answered task
  pub answered_long : length (all_done r.runs) ≡ length more
  answered_long = grind (arith, length-all_done, length_permutation)

  -- each task was answered or left
  pub both_long : length more + length rest ≡ length left
  both_long = tasks_counted (map_of now) table_map left rest more turn

  -- no more puts were answered than tasks
  pub puts_few : puts_done r.runs ≤ length left
  puts_few = grind (arith, count_by-le-length, length-map, answered_long, both_long)

  module _ (following : List Pair) (h : HasPairs table following) where
    -- the pairs after the table are the pairs of the map
    pub after_is : following ≡ pairs_of table_map
    after_is = h now (told_of_runs r.runs) r.is.stands

    -- the pairs after the table make the map
    pub after_map : map_of following ≡ table_map
    after_map = ap map_of after_is ∙ map_of-pairs_of table_map

    -- the pairs after the table are strictly increasing
    pub after_rises : IsRising following
    after_rises = grind (arith, after_is, pairs_rise_at)

  -- if the table ran full, something is left
  pub rest_some : (numbers : Full) → RanFull now table r.runs numbers → 0 < length rest
  rest_some numbers f = grind (arith, left_some, length_permutation)

  -- if each lane answered all, nothing is left
  pub rest_none : AreWhole r.runs → rest ≡ []
  rest_none whole = let flat : List Task = flat_map (λ tasks. tasks) (left_of_runs r.runs) in
      let none = length_permutation flat []
      (nothing_left workers left r.runs r.is.lanes whole).same in
      let long = length_permutation flat rest r.left_are.same in nil_from_length rest (omega arith)

-- with what is left there are no more pairs after the table than there were pairs and tasks
pub few_following : (workers words : ℕ) (now : List Pair) (left : List Task) (table : List ℕ)
    (more : List Answer) (rest : List Task) (full : Option Full)
    (r : RanOnTable workers words now left table more rest full) (some : 1 ≤ workers)
    (up : IsStrictlyIncreasing (task_lines left)) (following : List Pair) (h : HasPairs table following)
    (most : ℕ) → IsRising now → length now + length left ≤ most
    → length following + length rest ≤ most
few_following workers words now left table more rest full r some up following h most rise few =
    let way = turn workers words now left table more rest full r some up in let keys = way.few in
    let old = ap length (pairs_of-map_of now rise) in
    let new = ap length
    (after_is workers words now left table more rest full r some up following h) in
    omega arith
