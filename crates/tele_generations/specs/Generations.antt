-- The tables of a round's generations: each but the last ran full, and the next one goes on with
-- the tasks that it left.
use Rattle.std.specs.Prelude.{◌≡◌, ℕ, ◌+◌, ◌*◌, ◌<◌, ◌≤◌, ◌⊎◌, min, Bool, true, false, List, [], ◌∷◌, length, slice_get, slice_index, Some, Contains, count_by}
use Rattle.std.specs.List.{flat_map}
use Rattle.ist_core.specs.declared.commands.Command.{Command}
use Rattle.ist_core.specs.declared.commands.Command.TheVariants.{Put, Remove, Get}
use Rattle.ist_core.specs.declared.pairs.Pair.{Pair}
use Rattle.ist_core.specs.declared.ports.Full.{Full}
use Rattle.ist_core.specs.Arithmetic.{degree}
use Rattle.ist_core.specs.RowLayout.{place_limit, next_place}
use Rattle.ist_core.specs.Map.{map_of, pairs_of, map_after, replay}
use Rattle.ist_core.specs.Resting.{StandsFor}
use Rattle.laws_calls.specs.Finishing.{is_put}
use Rattle.tele_lanes.specs.declared.task_lists.Task.{Task}
use Rattle.tele_lanes.specs.Lines.{commands_of}
use Rattle.tele_lanes.specs.Lanes.{TasksInLineOrder}
use Rattle.tele_generations.specs.Runs.{LaneRun, LanesRan, AreWhole, told_of_runs, done_of_runs, left_of_runs}

-- may the command need words?
abbrev pub may_want_words : Command → Bool
may_want_words (Put key value) = true
may_want_words (Remove key) = true
may_want_words (Get key) = false

-- all tasks that the lanes answered, lane by lane
abbrev pub all_done : List LaneRun → List Task
all_done runs = flat_map (λ tasks. tasks) (done_of_runs runs)

-- how many puts the lanes answered
abbrev pub puts_done : List LaneRun → ℕ
puts_done runs = count_by is_put (commands_of (all_done runs))

-- how many words may be asked for at once with at most `keys` keys: those of a leaf, a pair row or
-- a change, or those of a node
abbrev pub MayAsk : ℕ → ℕ → Type 0
MayAsk keys asked =
    (asked ≡ 2) ⊎ ((asked ≡ 7) ⊎ ((asked ≡ 9)
    ⊎ ((k : ℕ) × (2 ≤ k) × (k ≤ keys) × (asked ≡ 2 * degree k + 3))))

-- one generation: the words of the table stand for the pairs and for what the lanes of the tasks
-- were told
pub record LanesRanOn (workers : ℕ) (pairs : List Pair) (tasks : List Task) (table : List ℕ)
    (runs : List LaneRun) : Type 0 where
  pub lanes : LanesRan workers tasks runs
  pub stands : StandsFor table pairs (told_of_runs runs)

-- the table ran full with these numbers, and some lane stopped before a put or a remove
pub record RanFull (pairs : List Pair) (table : List ℕ) (runs : List LaneRun)
    (full : Full) : Type 0 where
  pub words : full.words ≡ length table
  pub next : full.next ≤ slice_index table next_place
  pub over : full.words < full.next + full.asked
  pub may_ask : MayAsk (length pairs + puts_done runs) full.asked
  pub run : LaneRun
  pub is_run : Contains runs run
  pub task : Task
  pub is_next : slice_get run.tasks (length run.answers) ≡ Some task
  pub wants : may_want_words task.command ≡ true

-- what a table that ran full hands on: the pairs after the tasks that its lanes answered, and the
-- tasks that they left; if they answered none, one thread answers the first of these
pub data HandsOn (pairs : List Pair) (runs : List LaneRun) (after : List Pair)
    (left : List Task) : Type 0 where
  some_done : ¬ (all_done runs ≡ [])
      → after ≡ pairs_of (replay (map_of pairs) (commands_of (all_done runs)))
      → TasksInLineOrder (left_of_runs runs) left → HandsOn pairs runs after left
  none_done : (task : Task) → all_done runs ≡ []
      → after ≡ pairs_of (map_after (map_of pairs) task.command)
      → TasksInLineOrder (left_of_runs runs) (task ∷ left) → HandsOn pairs runs after left

-- the next table has at least twice the words, or as many as a table may have
abbrev pub IsLarger : List ℕ → List ℕ → Type 0
IsLarger table next = min place_limit (2 * length table) ≤ length next

-- the tables of the generations of a round that begins with these pairs; each but the last ran full
-- with its numbers
pub data IsGenerations (workers : ℕ) : List Pair → List Task → List (List ℕ) → List Full
    → Type 0 where
  whole : {pairs : List Pair} {tasks : List Task} {table : List ℕ} (runs : List LaneRun)
      → LanesRanOn workers pairs tasks table runs → AreWhole runs
      → IsGenerations workers pairs tasks (table ∷ []) []
  ran_full : {pairs after : List Pair} {tasks left : List Task} {table next : List ℕ}
      {more : List (List ℕ)} {full : Full} {fulls : List Full} (runs : List LaneRun)
      → LanesRanOn workers pairs tasks table runs → RanFull pairs table runs full
      → HandsOn pairs runs after left → IsLarger table next
      → IsGenerations workers after left (next ∷ more) fulls
      → IsGenerations workers pairs tasks (table ∷ next ∷ more) (full ∷ fulls)
