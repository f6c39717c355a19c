-- The rounds of a run as lists of tasks, and the tables on which they ran.
use Rattle.std.specs.Prelude.{◌≡◌, ℕ, ◌+◌, Bool, true, false, List, [], ◌∷◌, ◌++◌, map, length, Option, Some, None}
use Rattle.std.specs.List.{filter, flat_map}
use Rattle.ist_core.specs.declared.commands.Command.{Command}
use Rattle.ist_core.specs.declared.ports.Full.{Full}
use Rattle.ist_core.specs.Map.{Map, no_pairs, replay, pairs_of}
use Rattle.tele_lanes.specs.declared.task_lists.Task.{Task}
use Rattle.tele_lanes.specs.Lines.{commands_of}
use Rattle.tele_lines.specs.declared.items.Item.TheVariants.{Point, Interval}
use Rattle.tele_lines.specs.declared.items.Version.TheVariants.{One}
use Rattle.tele_lines.specs.Lines.{lines_of}
use Rattle.tele_lines.specs.Answer.{Read, Good, Bad, input_lines}
use Rattle.tele_lines.specs.Rounds.{rounds}
use Rattle.tele_jobs.specs.Made.{made_commands}
use Rattle.tele_generations.specs.Sizes.{first_words}
use Rattle.tele_generations.specs.Generations.{IsGenerations}
use Rattle.tele_generations.specs.Shelves.{IsShelved}
use Rattle.tele_generations.specs.Rounds.{FirstHas, EndsTheRound}
use Rattle.tele_generations.specs.Counts.{lane_count}

-- the point lines among these lines, as tasks
abbrev pub tasks_in : List Read → List Task
tasks_in [] = []
tasks_in (Good number version (Point command) ∷ lines) =
    record { line = number; command = command } ∷ tasks_in lines
tasks_in (Good number version (Interval first last) ∷ lines) = tasks_in lines
tasks_in (Bad number cause ∷ lines) = tasks_in lines

-- are there tasks?
abbrev pub has_some : List Task → Bool
has_some [] = false
has_some (task ∷ tasks) = true

-- the tasks of each round of some lines; a round without a point line is left out
abbrev pub task_rounds : List Read → List (List Task)
task_rounds lines = filter has_some (map tasks_in (rounds lines))

-- commands as point lines, numbered from this number on
abbrev pub numbered_lines : ℕ → List Command → List Read
numbered_lines number [] = []
numbered_lines number (command ∷ commands) =
    Good number One (Point command) ∷ numbered_lines (number + 1) commands

-- the rounds of an input
abbrev pub input_rounds : List ℕ → List (List Task)
input_rounds bytes = task_rounds (input_lines (lines_of bytes))

-- the rounds of `count` lines made from a seed
abbrev pub made_rounds : ℕ → ℕ → List (List Task)
made_rounds count seed = task_rounds (numbered_lines 1 (made_commands count seed))

-- the map after some rounds that begin with the map `m`
abbrev pub map_after_rounds : Map → List (List Task) → Map
map_after_rounds m [] = m
map_after_rounds m (tasks ∷ rounds) = map_after_rounds (replay m (commands_of tasks)) rounds

-- who runs the rounds: how many workers, and whether they steal lanes from one another
pub record Team : Type 0 where
  pub workers : ℕ
  pub steal : Bool

-- the team with these workers and this choice
abbrev pub team_of : ℕ → Bool → Team
team_of workers steal = record { workers = workers; steal = steal }

-- how many lanes each round of a team has
abbrev pub lanes_of : Team → ℕ
lanes_of team = lane_count team.workers team.steal

-- these are the tables of a round that begins with a map; the pairs, the tasks and the options of
-- the run determine how many words the first has
pub record AreTablesOf (team : Team) (most : ℕ) (m : Map) (tasks : List Task)
    (tables : List (List ℕ)) : Type 0 where
  pub fulls : List Full
  pub are : IsGenerations (lanes_of team) (pairs_of m) tasks tables fulls
  pub first_is : FirstHas (first_words most team.workers (length (pairs_of m)) (length tasks)) tables

-- these are the tables of some rounds, one list per round in order; each round begins with the map
-- after the rounds before it
abbrev pub AreTablesOfAll : Team → ℕ → Map → List (List Task) → List (List (List ℕ)) → Type 0
AreTablesOfAll team most m [] [] = Unit {0}
AreTablesOfAll team most m [] (tables ∷ lists) = ⊥
AreTablesOfAll team most m (tasks ∷ rounds) [] = ⊥
AreTablesOfAll team most m (tasks ∷ rounds) (tables ∷ lists) =
    AreTablesOf team most m tasks tables
    × AreTablesOfAll team most (replay m (commands_of tasks)) rounds lists

-- what the last of some rounds left: how many of its tables ran full, and that the words of its
-- last table stand for the pairs at that table's opening and for what its lanes were told
pub record IsLastRound (team : Team) (rounds : List (List Task)) (lists : List (List (List ℕ)))
    (last : List ℕ) (fulls : ℕ) : Type 0 where
  pub earlier : List (List Task)
  pub tasks : List Task
  pub others : List (List (List ℕ))
  pub tables : List (List ℕ)
  pub refusals : List Full
  pub rounds_are : rounds ≡ earlier ++ tasks ∷ []
  pub lists_are : lists ≡ others ++ tables ∷ []
  pub count : length refusals ≡ fulls
  pub one_more : length tables ≡ fulls + 1
  pub ends : EndsTheRound (lanes_of team) (pairs_of (map_after_rounds no_pairs earlier)) tasks
      last refusals

-- if there is a round, there is a last table and it is the last round's; without a round there is
-- no last table
abbrev pub EndsWith : Team → List (List Task) → List (List (List ℕ)) → Option (List ℕ) → ℕ
    → Type 0
EndsWith team rounds lists None fulls = (rounds ≡ []) × (fulls ≡ 0)
EndsWith team rounds lists (Some last) fulls = IsLastRound team rounds lists last fulls

-- the last table, if there is one
abbrev pub if_any : Option (List ℕ) → List (List ℕ)
if_any None = []
if_any (Some last) = last ∷ []

-- the rounds were run one after another, from the map with no key; the tables of all rounds, list
-- after list, are those put on the shelf, and then the last one
pub record RanRounds (team : Team) (most : ℕ) (rounds : List (List Task))
    (before after : Option (List (List ℕ))) (last : Option (List ℕ)) (fulls : ℕ) : Type 0 where
  pub lists : List (List (List ℕ))
  pub given : List (List ℕ)
  pub shelved : IsShelved before given after
  pub together : flat_map (λ tables. tables) lists ≡ given ++ if_any last
  pub are : AreTablesOfAll team most no_pairs rounds lists
  pub ends : EndsWith team rounds lists last fulls
