-- Lanes that each ended after a first part of their tasks, on one table: together they answer these
-- parts as one thread does.
use Rattle.std.specs.Prelude.{◌≡◌, ℕ, ◌<◌, List, [], map, take, length, All}
use Rattle.std.specs.List.{flat_map}
use Rattle.std.specs.List.Sorted.{IsStrictlyIncreasing}
use Rattle.ist_core.specs.declared.pairs.Pair.{Pair}
use Rattle.ist_core.specs.Map.{Map, map_of, replay}
use Rattle.ist_core.specs.Replies.{Answered}
use Rattle.ist_core.specs.Logs.{Log}
use Rattle.ist_core.specs.Resting.{StandsFor}
use Rattle.laws_histories.specs.Telling.{map_now}
use Rattle.tele_lanes.specs.declared.task_lists.Task.{Task}
use Rattle.tele_lanes.specs.declared.answer_lists.Answer.{Answer}
use Rattle.tele_lanes.specs.Lines.{commands_of, task_lines, AnswerInOrder, CallInOrder, TellReplies}
use Rattle.tele_lanes.specs.Lanes.{all_lane_tasks, unanswered, ArePlainAnswers, InLineOrder, TasksInLineOrder}
use Rattle.tele_generations.specs.Alone.{RestsWith}

-- ---- lanes that ran

-- a lane after its run: its tasks, what its port was told, and its answers
pub record LaneRun : Type 0 where
  pub tasks : List Task
  pub told : List Answered
  pub answers : List Answer

-- the first of the lane's tasks were called, in order, and each call has its answer
pub record HasRun (run : LaneRun) : Type 0 where
  pub calls : CallInOrder run.tasks run.told
  pub answers : AnswerInOrder run.tasks run.answers
  pub replies : TellReplies run.told run.answers

-- these are the lanes of the tasks, and each has run
pub record LanesRan (workers : ℕ) (tasks : List Task) (runs : List LaneRun) : Type 0 where
  pub lanes : map (λ run. run.tasks) runs ≡ all_lane_tasks workers tasks
  pub ran : All HasRun runs

-- what each lane was told
abbrev pub told_of_runs : List LaneRun → List (List Answered)
told_of_runs runs = map (λ run. run.told) runs

-- what each lane answered
abbrev pub answers_of_runs : List LaneRun → List (List Answer)
answers_of_runs runs = map (λ run. run.answers) runs

-- the tasks of each lane that were answered
abbrev pub done_of_runs : List LaneRun → List (List Task)
done_of_runs runs = map (λ run. take (length run.answers) run.tasks) runs

-- the tasks of each lane that are left
abbrev pub left_of_runs : List LaneRun → List (List Task)
left_of_runs runs = map (λ run. unanswered run.tasks run.answers) runs

-- the lanes ran on a table that began with these pairs: the log is lawful and at rest, and pass w
-- was told what lane w was told
pub record RanOn (pairs : List Pair) (words : ℕ) (log : Log) (workers : ℕ) (tasks : List Task)
    (runs : List LaneRun) : Type 0 where
  pub some : 0 < workers
  pub rising : IsStrictlyIncreasing (task_lines tasks)
  pub lanes : LanesRan workers tasks runs
  pub rests : RestsWith pairs words log (told_of_runs runs)

-- ---- what they answer

-- one thread gives these answers to the tasks, from the map `m`, and leaves the map `now`
pub record ArePlainly (m : Map) (tasks : List Task) (answers : List Answer)
    (now : Map) : Type 0 where
  pub plain : ArePlainAnswers m tasks answers
  pub leaves : replay m (commands_of tasks) ≡ now

-- the answers, merged in line order, are one thread's answers to the answered tasks in line order,
-- and the map after the changes of the log is the one that it leaves
abbrev pub DoneIsPlain : Type 0
DoneIsPlain =
    (pairs : List Pair) (words : ℕ) (log : Log) (workers : ℕ) (tasks : List Task)
    (runs : List LaneRun)
    → RanOn pairs words log workers tasks runs
    → (done : List Task) → TasksInLineOrder (done_of_runs runs) done
    → (answers : List Answer) → InLineOrder (answers_of_runs runs) answers
    → ArePlainly (map_of pairs) done answers (map_now pairs words log)

-- that map is also the map after the answered tasks lane by lane, since lanes share no key
abbrev pub DoneLeavesTheMap : Type 0
DoneLeavesTheMap =
    (pairs : List Pair) (words : ℕ) (log : Log) (workers : ℕ) (tasks : List Task)
    (runs : List LaneRun)
    → RanOn pairs words log workers tasks runs
    → replay (map_of pairs) (commands_of (flat_map (λ done. done) (done_of_runs runs)))
    ≡ map_now pairs words log

-- each lane answered all of its tasks
abbrev pub AreWhole : List LaneRun → Type 0
AreWhole runs = All (λ run. length run.told ≡ length run.tasks) runs

-- if each lane answered all, the answers merged in line order are one thread's answers to all tasks
abbrev pub WholeIsPlain : Type 0
WholeIsPlain =
    (pairs : List Pair) (words : ℕ) (log : Log) (workers : ℕ) (tasks : List Task)
    (runs : List LaneRun)
    → RanOn pairs words log workers tasks runs → AreWhole runs
    → (answers : List Answer) → InLineOrder (answers_of_runs runs) answers
    → ArePlainly (map_of pairs) tasks answers (map_now pairs words log)

-- if each lane answered all, nothing is left
abbrev pub WholeLeavesNothing : Type 0
WholeLeavesNothing =
    (workers : ℕ) (tasks : List Task) (runs : List LaneRun)
    → LanesRan workers tasks runs → AreWhole runs → TasksInLineOrder (left_of_runs runs) []

-- words that stand for pairs and lists of calls have a log that rests with these
abbrev pub WordsRestWith : Type 0
WordsRestWith =
    (words : List ℕ) (pairs : List Pair) (told : List (List Answered))
    → (stands : StandsFor words pairs told) → RestsWith pairs (length words) stands.log told
