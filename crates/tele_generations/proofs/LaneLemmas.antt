-- One lane that ran on a table. Serves `laws.lanes_answer_their_parts`.
use Rattle.std.proofs.Common.{◌≡◌, ℕ, zero, suc, ◌+◌, ◌<◌, List, [], ◌∷◌, take, drop, length, get_or, subst, arith, All}
use Rattle.std.specs.List.Sorted.{IsStrictlyIncreasing}
use Rattle.std.proofs.lemmas.Bool.{eqb-true}
use Rattle.std.proofs.lemmas.List.{length-map, take-map, get_or-drop, length-drop}
use Rattle.std.proofs.lemmas.List.Elements.{filter_passes}
use Rattle.ist_core.specs.TreeTerms.{Map}
use Rattle.ist_core.specs.LogTerms.{Answered, Each, IsLegal}
use Rattle.tele_lanes.specs.declared.task_lists.Task.{Task}
use Rattle.tele_lanes.specs.Lines.{commands_of}
use Rattle.tele_lanes.specs.Lanes.{lane_of, lane_tasks, ArePlainAnswers}
use Rattle.tele_lanes.proofs.SplitLemmas.{is_in}
use Rattle.tele_generations.specs.Alone.{KeepToLanes, commands_told}
use Rattle.tele_generations.specs.Runs.{LaneRun, HasRun}

-- ---- lists

module _ {A : Type 0} where
  -- what holds at each place holds of each element
  pub each_all : (P : A → Type 0) (xs : List A) → All P xs → Each P xs
  each_all P [] h = tt
  each_all P (x ∷ xs) h = (h 0 x (omega arith), each_all P xs (λ k d lt. h (suc k) d (omega arith)))

  -- what holds of each element holds at each place
  pub all_each : (P : A → Type 0) (xs : List A) → Each P xs → All P xs
  all_each P [] h k d lt = absurd (omega arith)
  all_each P (x ∷ xs) h zero d lt = h.0
  all_each P (x ∷ xs) h (suc k) d lt = all_each P xs h.1 k d (omega arith)

-- the last numbers of a strictly increasing list
pub IsStrictlyIncreasing-drop : (n : ℕ) (xs : List ℕ) → IsStrictlyIncreasing xs
    → IsStrictlyIncreasing (drop n xs)
IsStrictlyIncreasing-drop n xs up k h = grind (arith, length-drop, get_or-drop)

-- lists of what was told keep to their lanes, if each does
pub keeps_from : (workers number : ℕ) (lists : List (List Answered))
    → ((k : ℕ) (d : List Answered) → k < length lists
    → Each (λ t. lane_of workers t.command ≡ number + k) (get_or lists k d))
    → KeepToLanes workers number lists
keeps_from workers number [] h = tt
keeps_from workers number (told ∷ more) h = (
  subst (λ n. Each (λ t. lane_of workers t.command ≡ n) told) (omega arith) (h 0 [] (omega arith)),
  keeps_from workers (number + 1) more
      (λ k d lt. subst (λ n. Each (λ t. lane_of workers t.command ≡ n) (get_or more k d))
      (omega arith) (h (suc k) d (omega arith))),
)

-- ---- one lane

-- each task of a lane has a key of the lane
pub of_lane : (workers lane : ℕ) (tasks : List Task)
    → All (λ t. lane_of workers t.command ≡ lane) (lane_tasks workers lane tasks)
of_lane workers lane tasks k d lt = eqb-true _ _ (filter_passes (is_in workers lane) tasks k d lt)

-- a lane's port was asked the commands of the tasks that were answered
pub run_asked : (run : LaneRun) → HasRun run
    → commands_told run.told ≡ commands_of (take (length run.answers) run.tasks)
run_asked run h = grind (arith, length-map, take-map)

-- a lane whose calls are legal by themselves answers as one thread does
pub run_plain : (m : Map) (run : LaneRun) → HasRun run → IsLegal m run.told
    → ArePlainAnswers m (take (length run.answers) run.tasks) run.answers
run_plain m run h legal = grind (arith, take-map, run_asked)
