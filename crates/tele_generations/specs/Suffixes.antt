-- What turns leave of each lane: its last tasks.
use Rattle.std.specs.Prelude.{◌≡◌, ℕ, ◌<◌, List, ◌∷◌, drop}
use Rattle.ist_core.specs.declared.pairs.Pair.{Pair}
use Rattle.ist_core.specs.Logs.{Log}
use Rattle.tele_lanes.specs.declared.task_lists.Task.{Task}
use Rattle.tele_lanes.specs.Lanes.{lane_tasks, TasksInLineOrder}
use Rattle.tele_generations.specs.Runs.{LaneRun, RanOn, left_of_runs}

-- what is left in each lane are the last of its tasks
abbrev pub LeavesSuffixes : ℕ → List Task → List Task → Type 0
LeavesSuffixes workers tasks left =
    (lane : ℕ) → lane < workers
    → (count : ℕ) × (lane_tasks workers lane left ≡ drop count (lane_tasks workers lane tasks))

-- all tasks are suffixes of themselves
abbrev pub AllAreSuffixes : Type 0
AllAreSuffixes = (workers : ℕ) (tasks : List Task) → LeavesSuffixes workers tasks tasks

-- a suffix of a suffix is one
abbrev pub SuffixesGoOn : Type 0
SuffixesGoOn =
    (workers : ℕ) (tasks left after : List Task)
    → LeavesSuffixes workers tasks left → LeavesSuffixes workers left after
    → LeavesSuffixes workers tasks after

-- lanes that ran leave suffixes
abbrev pub LanesLeaveSuffixes : Type 0
LanesLeaveSuffixes =
    (pairs : List Pair) (words : ℕ) (log : Log) (workers : ℕ) (tasks : List Task)
    (runs : List LaneRun)
    → RanOn pairs words log workers tasks runs
    → (left : List Task) → TasksInLineOrder (left_of_runs runs) left
    → LeavesSuffixes workers tasks left

-- the first line, answered by one thread, leaves suffixes
abbrev pub OneLineLeavesSuffixes : Type 0
OneLineLeavesSuffixes =
    (workers : ℕ) (task : Task) (tasks : List Task) → LeavesSuffixes workers (task ∷ tasks) tasks
