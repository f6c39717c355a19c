-- A round in turns: each turn answers some of the tasks that are left, from the map that the
-- turns before it left.
use Rattle.std.specs.Prelude.{◌≡◌, ℕ, ◌+◌, ◌≤◌, List, [], ◌∷◌, ◌++◌, length}
use Rattle.std.specs.List.Sorted.{IsStrictlyIncreasing, IsPermutation, IsNonDecreasingBy}
use Rattle.ist_core.specs.declared.pairs.Pair.{Pair}
use Rattle.ist_core.specs.Map.{Map, map_of, pairs_of, map_after, reply_to, replay}
use Rattle.ist_core.specs.Logs.{Log}
use Rattle.laws_histories.specs.Telling.{map_now}
use Rattle.tele_lanes.specs.declared.task_lists.Task.{Task}
use Rattle.tele_lanes.specs.declared.answer_lists.Answer.{Answer}
use Rattle.tele_lanes.specs.Lines.{commands_of, task_lines}
use Rattle.tele_lanes.specs.Lanes.{ArePlainAnswers, InLineOrder, TasksInLineOrder}
use Rattle.tele_generations.specs.Runs.{LaneRun, RanOn, answers_of_runs, left_of_runs, ArePlainly}

-- the round is under way: its tasks began on the map `m`, and the answers so far leave some tasks
-- and the map `now`. Together with one thread's answers to the tasks left, from `now`, they are one
-- thread's answers to all tasks, from `m`. It leaves the same map. At most as many keys came as
-- tasks went.
pub record IsUnderWay (m : Map) (tasks : List Task) (answers : List Answer) (left : List Task)
    (now : Map) : Type 0 where
  pub completes : (rest all : List Answer)
      → ArePlainAnswers now left rest → ArePlainAnswers m tasks all
      → IsPermutation (answers ++ rest) all
  pub leaves : replay now (commands_of left) ≡ replay m (commands_of tasks)
  pub few : length (pairs_of now) + length left ≤ length (pairs_of m) + length tasks

-- before the first turn all tasks are left
abbrev pub RoundBegins : Type 0
RoundBegins = (m : Map) (tasks : List Task) → IsUnderWay m tasks [] tasks m

-- a turn goes on from the turns before it: it is a round of its own, of the tasks that they left
abbrev pub RoundGoesOn : Type 0
RoundGoesOn =
    (m now later : Map) (tasks left after : List Task) (answers more : List Answer)
    → IsUnderWay m tasks answers left now → IsUnderWay now left more after later
    → IsUnderWay m tasks (answers ++ more) after later

-- a turn of lanes on a table: what they leave, merged in line order, is left, and the map is the
-- map after the changes
abbrev pub LanesTakeATurn : Type 0
LanesTakeATurn =
    (pairs : List Pair) (words : ℕ) (log : Log) (workers : ℕ) (tasks : List Task)
    (runs : List LaneRun)
    → RanOn pairs words log workers tasks runs
    → (answers : List Answer) → InLineOrder (answers_of_runs runs) answers
    → (left : List Task) → TasksInLineOrder (left_of_runs runs) left
    → IsUnderWay (map_of pairs) tasks answers left (map_now pairs words log)

-- the answer of one thread to one task
abbrev pub plain_answer : Map → Task → Answer
plain_answer m task = record { line = task.line; reply = reply_to m task.command }

-- a turn of one thread that answers only the first line
abbrev pub OneLineTakesATurn : Type 0
OneLineTakesATurn =
    (m : Map) (task : Task) (tasks : List Task)
    → IsUnderWay m (task ∷ tasks) (plain_answer m task ∷ []) tasks (map_after m task.command)

-- each task is answered or left
abbrev pub TasksAreCounted : Type 0
TasksAreCounted =
    (m now : Map) (tasks left : List Task) (answers : List Answer)
    → IsUnderWay m tasks answers left now → length answers + length left ≡ length tasks

-- if nothing is left, the answers sorted by line are one thread's answers to all tasks, and the map
-- is the one that it leaves
abbrev pub RoundEnds : Type 0
RoundEnds =
    (m now : Map) (tasks : List Task) (answers all : List Answer)
    → IsStrictlyIncreasing (task_lines tasks) → IsUnderWay m tasks answers [] now
    → IsPermutation answers all → IsNonDecreasingBy (λ a. a.line) all
    → ArePlainly m tasks all now

-- a table that begins with the pairs of a map begins with that map
abbrev pub PairsAreTheMap : Type 0
PairsAreTheMap = (m : Map) → map_of (pairs_of m) ≡ m
