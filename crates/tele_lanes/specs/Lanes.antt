-- Which lane a command goes to, what the lanes answer, and what it means to gather the answers.
use Rattle.std.specs.Prelude.{◌≡◌, ℕ, ◌%◌, ◌<◌, ◌==◌, List, [], ◌∷◌, filter, map, drop, length, slice_index_or, Option, Some, None}
use Rattle.std.specs.List.{flat_map, range_with_len, IsDistinct}
use Rattle.std.specs.List.Sorted.{IsStrictlyIncreasing, IsPermutation}
use Rattle.ist_core.specs.declared.commands.Command.{Command}
use Rattle.ist_core.specs.declared.ports.Full.{Full}
use Rattle.ist_core.specs.Map.{Map, key_of, replies}
use Rattle.tele_lanes.specs.declared.task_lists.Task.{Task}
use Rattle.tele_lanes.specs.declared.answer_lists.Answer.{Answer}
use Rattle.tele_lanes.specs.Lines.{commands_of, task_lines, answer_lines, replies_in}

-- the lane of a command: its key modulo the number of workers
abbrev pub lane_of : ℕ → Command → ℕ
lane_of workers command = key_of command % workers

-- the commands of one lane, in their order
abbrev pub lane_commands : ℕ → ℕ → List Command → List Command
lane_commands workers lane commands = filter (λ c. lane_of workers c == lane) commands

-- the tasks of one lane, in their order
abbrev pub lane_tasks : ℕ → ℕ → List Task → List Task
lane_tasks workers lane tasks = filter (λ t. lane_of workers t.command == lane) tasks

-- the tasks of each lane, lane by lane
abbrev pub all_lane_tasks : ℕ → List Task → List (List Task)
all_lane_tasks workers tasks =
    map (λ lane. lane_tasks workers lane tasks) (range_with_len 0 workers)

-- no two tasks of these lists have the same line
abbrev pub HaveOwnLines : List (List Task) → Type 0
HaveOwnLines lists = IsDistinct (λ x y. x == y) (task_lines (flat_map (λ tasks. tasks) lists))

-- the tasks left after dropping as many as there are answers
abbrev pub unanswered : List Task → List Answer → List Task
unanswered tasks answers = drop (length answers) tasks

-- the first refusal among what ended some lanes, if one of them was refused
abbrev pub first_refusal : List (Option Full) → Option Full
first_refusal [] = None
first_refusal (None ∷ more) = first_refusal more
first_refusal (Some full ∷ more) = Some full

-- one thread answers the tasks from this map with these answers: each line in order, with its reply
pub record ArePlainAnswers (m : Map) (tasks : List Task) (answers : List Answer) : Type 0 where
  pub lines : answer_lines answers ≡ task_lines tasks
  pub replies : replies_in answers ≡ replies m (commands_of tasks)

-- each lane answers its own tasks as one thread does, from this map and without the others
pub record AnswerAlone (m : Map) (workers : ℕ) (tasks : List Task)
    (lanes : List (List Answer)) : Type 0 where
  pub len : length lanes ≡ workers
  pub each : (lane : ℕ) (d : List Answer) → lane < workers
      → ArePlainAnswers m (lane_tasks workers lane tasks) (slice_index_or lanes lane d)

-- the answers of all lanes, merged: none is added or left out, and the lines are strictly
-- increasing
pub record InLineOrder (lanes : List (List Answer)) (all : List Answer) : Type 0 where
  pub same : IsPermutation (flat_map (λ answers. answers) lanes) all
  pub rising : IsStrictlyIncreasing (answer_lines all)

-- the tasks of some lists, merged: none is added or left out, and the lines are strictly increasing
pub record TasksInLineOrder (lists : List (List Task)) (all : List Task) : Type 0 where
  pub same : IsPermutation (flat_map (λ tasks. tasks) lists) all
  pub rising : IsStrictlyIncreasing (task_lines all)
