-- The result of one generation, and the pairs of a closed table.
use Rattle.std.specs.Prelude.{◌≡◌, ℕ, ◌≤◌, Bool, List, length, Option, Some, None, IfOk}
use Rattle.std.specs.Borrow.{Bor}
use Rattle.std.specs.List.Sorted.{IsStrictlyIncreasing}
use Rattle.std.specs.declared.alloc.AllocError.{AllocError}
use Rattle.std.specs.declared.result.Result.{Result}
use Rattle.ist_core.specs.declared.pairs.Pair.{Pair}
use Rattle.ist_core.specs.declared.ports.Full.{Full}
use Rattle.ist_core.specs.Lawful.{CanOpen}
use Rattle.ist_core.specs.Map.{pairs_of}
use Rattle.ist_core.specs.Replies.{Answered}
use Rattle.ist_core.specs.Resting.{StandsFor}
use Rattle.laws_histories.specs.Telling.{map_now}
use Rattle.tele_lanes.specs.declared.task_lists.Task.{Task}
use Rattle.tele_lanes.specs.declared.answer_lists.Answer.{Answer}
use Rattle.tele_lanes.specs.Lanes.{InLineOrder, TasksInLineOrder}
use Rattle.tele_lanes.specs.Lines.{task_lines}
use Rattle.tele_generations.specs.declared.tables.Generation.{Generation}
use Rattle.tele_generations.specs.declared.ways.RoundState.{RoundState}
use Rattle.tele_generations.specs.Counts.{lane_count}
use Rattle.tele_generations.specs.Runs.{LaneRun, AreWhole, answers_of_runs, left_of_runs}
use Rattle.tele_generations.specs.Generations.{LanesRanOn, RanFull}

-- how the lanes ended: each answered all of its tasks, or the table ran full with these numbers
abbrev pub EndedWith : List Pair → List ℕ → List LaneRun → Option Full → Type 0
EndedWith pairs table runs None = AreWhole runs
EndedWith pairs table runs (Some full) = RanFull pairs table runs full

-- the tasks ran on a table of `words` words that began with the pairs; these are its words, the
-- answers and the tasks left in line order, and how it ended
pub record RanOnTable (workers words : ℕ) (pairs : List Pair) (tasks : List Task)
    (table : List ℕ) (answers : List Answer) (left : List Task) (full : Option Full) : Type 0 where
  pub runs : List LaneRun
  pub is : LanesRanOn workers pairs tasks table runs
  pub sized : length table ≡ words
  pub answered : InLineOrder (answers_of_runs runs) answers
  pub left_are : TasksInLineOrder (left_of_runs runs) left
  pub ended : EndedWith pairs table runs full

-- whatever the words stand for, these are the pairs of the map after the changes
abbrev pub HasPairs : List ℕ → List Pair → Type 0
HasPairs table after =
    (pairs : List Pair) (told : List (List Answered)) (s : StandsFor table pairs told)
    → after ≡ pairs_of (map_now pairs (length table) s.log)

-- the next table of a round may run what is left, with so many workers
pub record MayRun (way : RoundState) (workers : ℕ) : Type 0 where
  pub opens : CanOpen way.pairs.items way.words
  pub rising : IsStrictlyIncreasing (task_lines way.left.items)
  pub some : 1 ≤ workers
  pub at_most : workers ≤ 64

-- it ran it, unless memory ran out
abbrev pub RanNext : RoundState → ℕ → Bool → Result Generation AllocError → Type 0
RanNext way workers steal result =
    IfOk result (λ g. RanOnTable (lane_count workers steal) way.words way.pairs.items
    way.left.items g.closed g.answers.items g.left.items g.full)

-- a closure that may be called for each such table, and runs what is left on it
pub record RunsTables {F : Type 0} (may : F → Bor RoundState → ℕ → Bool → Type 0)
    (ends : F → Bor RoundState → ℕ → Bool → Result Generation AllocError → Type 0) : Type 0 where
  pub may_run : (tables : F) (way : Bor RoundState) (workers : ℕ) (steal : Bool)
      → MayRun way.now workers → may tables way workers steal
  pub ran : (tables : F) (way : Bor RoundState) (workers : ℕ) (steal : Bool)
      (result : Result Generation AllocError) → ends tables way workers steal result
      → RanNext way.now workers steal result
