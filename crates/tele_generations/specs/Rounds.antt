-- The result of a round in generations.
use Rattle.std.specs.Prelude.{◌≡◌, ℕ, List, [], ◌∷◌, ◌++◌, length, Option}
use Rattle.ist_core.specs.declared.pairs.Pair.{Pair}
use Rattle.ist_core.specs.declared.ports.Full.{Full}
use Rattle.ist_core.specs.Map.{map_of, replay}
use Rattle.laws_histories.specs.Telling.{map_now}
use Rattle.tele_lanes.specs.declared.task_lists.Task.{Task}
use Rattle.tele_lanes.specs.Lines.{commands_of}
use Rattle.tele_generations.specs.Runs.{LaneRun, AreWhole}
use Rattle.tele_generations.specs.Suffixes.{LeavesSuffixes}
use Rattle.tele_generations.specs.Generations.{LanesRanOn, IsGenerations}
use Rattle.tele_generations.specs.Shelves.{IsShelved}

-- the first of some tables has this many words
abbrev pub FirstHas : ℕ → List (List ℕ) → Type 0
FirstHas words [] = ⊥
FirstHas words (table ∷ tables) = length table ≡ words

-- the tables put on the shelf, followed by the last one, are the tables of the round's generations,
-- each but the last with its numbers
pub record RanInGenerations (workers first : ℕ) (pairs : List Pair) (tasks : List Task)
    (before after : Option (List (List ℕ))) (last : List ℕ) (fulls : List Full) : Type 0 where
  pub given : List (List ℕ)
  pub shelved : IsShelved before given after
  pub are : IsGenerations workers pairs tasks (given ++ last ∷ []) fulls
  pub first_is : FirstHas first (given ++ last ∷ [])

-- the words of the last table stand for the pairs at its opening and for what the lanes were told
-- of their last tasks, which are all tasks if no table ran full; its map is the map after all tasks
pub record EndsTheRound (workers : ℕ) (pairs : List Pair) (tasks : List Task) (table : List ℕ)
    (fulls : List Full) : Type 0 where
  pub opening : List Pair
  pub left : List Task
  pub runs : List LaneRun
  pub is : LanesRanOn workers opening left table runs
  pub whole : AreWhole runs
  pub suffixes : LeavesSuffixes workers tasks left
  pub at_once : fulls ≡ [] → (opening ≡ pairs) × (left ≡ tasks)
  pub leaves : map_now opening (length table) is.stands.log
      ≡ replay (map_of pairs) (commands_of tasks)
