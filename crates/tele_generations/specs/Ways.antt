-- What the loop over generations keeps, and what one turn at rest does.
use Rattle.std.specs.Prelude.{◌≡◌, ℕ, ◌+◌, ◌<◌, ◌≤◌, List, [], ◌∷◌, ◌++◌, length, Option, All}
use Rattle.std.specs.List.Sorted.{IsStrictlyIncreasing}
use Rattle.ist_core.specs.declared.pairs.Pair.{Pair}
use Rattle.ist_core.specs.declared.ports.Full.{Full}
use Rattle.ist_core.specs.Map.{map_of, map_after}
use Rattle.ist_core.specs.RowLayout.{place_limit}
use Rattle.ist_core.specs.Lawful.{CanOpen}
use Rattle.tele_lanes.specs.declared.task_lists.Task.{Task}
use Rattle.tele_lanes.specs.declared.answer_lists.Answer.{Answer}
use Rattle.tele_lanes.specs.Lines.{task_lines}
use Rattle.tele_generations.specs.Turns.{IsUnderWay, plain_answer}
use Rattle.tele_generations.specs.Suffixes.{LeavesSuffixes}
use Rattle.plain_map.specs.Rising.{IsRising}
use Rattle.tele_generations.specs.declared.rests.Turn.{Turn}
use Rattle.tele_generations.specs.declared.ways.RoundState.{RoundState}
use Rattle.tele_generations.specs.Sizes.{least_words, next_words}
use Rattle.tele_generations.specs.Generations.{MayAsk, IsLarger, IsGenerations}
use Rattle.tele_generations.specs.Shelves.{IsShelved}

-- a turn at rest: if there is an answer, everything stays; otherwise one thread answers the first
-- task
pub data Rests (answers : List Answer) (left : List Task) (pairs : List Pair) : List Answer
    → List Task → List Pair → Type 0 where
  stays : 0 < length answers → Rests answers left pairs answers left pairs
  rests_one : (task : Task) (rest : List Task) (after : List Pair) → length answers ≡ 0
      → left ≡ task ∷ rest → IsRising after
      → map_of after ≡ map_after (map_of pairs) task.command
      → Rests answers left pairs (plain_answer (map_of pairs) task ∷ []) rest after

-- the table may follow the tables so far
abbrev pub MayFollow : List (List ℕ) → List ℕ → Type 0
MayFollow [] next = Unit {0}
MayFollow (table ∷ []) next = IsLarger table next
MayFollow (table ∷ other ∷ tables) next = MayFollow (other ∷ tables) next

-- the tables so far, followed by tables of generations for what they leave, are tables of
-- generations for all
abbrev pub LeadOn : ℕ → List Pair → List Task → List (List ℕ) → List Full → List Pair
    → List Task → Type 0
LeadOn workers pairs tasks tables fulls now left =
    (next : List ℕ) (more : List (List ℕ)) (later : List Full) → MayFollow tables next
    → IsGenerations workers now left (next ∷ more) later
    → IsGenerations workers pairs tasks (tables ++ next ∷ more) (fulls ++ later)

-- the first of the tables so far has `first` words; before the first table, the next one will have
-- them
abbrev pub HasFirstWords : ℕ → List (List ℕ) → ℕ → Type 0
HasFirstWords first [] words = words ≡ first
HasFirstWords first (table ∷ tables) words = length table ≡ first

-- the tables so far: they are on the shelf, they lead on to what is left, and the next one may
-- follow
pub record HasTables (workers first : ℕ) (pairs : List Pair) (tasks : List Task)
    (before after : Option (List (List ℕ))) (fulls : List Full) (now : List Pair)
    (left : List Task) (words : ℕ) : Type 0 where
  pub given : List (List ℕ)
  pub shelved : IsShelved before given after
  pub lead : LeadOn workers pairs tasks given fulls now left
  pub may_follow : (next : List ℕ) → length next ≡ words → MayFollow given next
  pub begins : HasFirstWords first given words

-- the round is under way, by some workers: what was answered, what is left and from which pairs, and
-- how many words the next table has
pub record IsOnItsWay (workers : ℕ) (pairs : List Pair) (tasks : List Task) (fulls : List Full)
    (answers : List Answer) (now : List Pair) (left : List Task) (words : ℕ) : Type 0 where
  pub some : 1 ≤ workers
  pub way : IsUnderWay (map_of pairs) tasks answers left (map_of now)
  pub rising : IsStrictlyIncreasing (task_lines left)
  pub opens : CanOpen now words
  pub suffixes : LeavesSuffixes workers tasks left
  pub at_once : fulls ≡ [] → (now ≡ pairs) × (left ≡ tasks)
  pub few : length now + length left ≤ length pairs + length tasks
  pub count : length fulls + length left ≤ length tasks
  pub asked : All (λ full. MayAsk (length pairs + length tasks) full.asked) fulls

-- the way goes on after a table that ran full: with a turn at rest and a next table
pub record GoesOnAfter (way : RoundState) (turn : Turn) (full : Full) (next : RoundState) : Type 0 where
  pub more : List Answer
  pub rested : Rests turn.answers.items turn.left.items turn.pairs.items more next.left.items
      next.pairs.items
  pub answers : next.answers.items ≡ way.answers.items ++ more
  pub fulls : next.fulls.items ≡ way.fulls.items ++ full ∷ []
  pub words : next.words ≡ next_words way.words (length next.pairs.items)
  pub fits : next.words ≤ place_limit
  pub holds : least_words (length next.pairs.items) ≤ next.words
