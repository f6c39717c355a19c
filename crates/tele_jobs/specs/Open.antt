-- The round that is open: the map after the rounds before it, its point lines, and the last table.
use Rattle.std.specs.Prelude.{◌≡◌, ℕ, ◌+◌, ◌<◌, List, [], ◌∷◌, ◌++◌, map, length, Option, None}
use Rattle.ist_core.specs.Elements.{Each}
use Rattle.std.specs.List.{flat_map}
use Rattle.std.specs.List.Sorted.{IsStrictlyIncreasing}
use Rattle.ist_core.specs.declared.pairs.Pair.{Pair}
use Rattle.ist_core.specs.Map.{Map, no_pairs, map_of, replay}
use Rattle.tele_lanes.specs.declared.task_lists.Task.{Task}
use Rattle.tele_lanes.specs.declared.answer_lists.Answer.{Answer}
use Rattle.tele_lanes.specs.Lines.{commands_of, task_lines}
use Rattle.tele_lanes.specs.Lanes.{ArePlainAnswers}
use Rattle.tele_lines.specs.declared.items.Item.TheVariants.{Point}
use Rattle.tele_lines.specs.declared.items.Version.{Version}
use Rattle.tele_lines.specs.Answer.{Read, Good, answer_text}
use Rattle.tele_jobs.specs.Rounds.{Team, map_after_rounds, RanRounds}

-- the pairs of a map, the lines to answer next, and the answers to the lines before them; the last
-- table of the rounds before, and how many tables of the last round ran full; who runs a round, and
-- how many words its first table has at most
pub record Open : Type 0 where
  pub pairs : List Pair
  pub tasks : List Task
  pub answers : List Answer
  pub last : Option (List ℕ)
  pub fulls : ℕ
  pub team : Team
  pub words : ℕ

-- a round without lines over the map with no key, before the first table
abbrev pub fresh_round : Team → ℕ → Open
fresh_round team words = record {
  pairs = [];
  tasks = [];
  answers = [];
  last = None;
  fulls = 0;
  team = team;
  words = words;
}

-- the open round with one more line
abbrev pub with_task : Open → Task → Open
with_task open_round task = record open_round { tasks = open_round.tasks ++ task ∷ [] }

-- the map of an open round
abbrev pub map_in : Open → Map
map_in open_round = map_of open_round.pairs

-- the tasks as lines of an input of this version
abbrev pub asked : Version → List Task → List Read
asked version tasks = map (λ task. Good task.line version (Point task.command)) tasks

-- the lines printed for these answers
abbrev pub answers_text : Version → List Answer → List ℕ
answers_text version answers = flat_map (λ answer. answer_text version answer.line answer.reply) answers

-- the tasks of a round were answered in order, and no task is left
pub record ClosesRound (before now : Open) : Type 0 where
  pub answered : ArePlainAnswers (map_in before) before.tasks now.answers
  pub following : map_in now ≡ replay (map_in before) (commands_of before.tasks)
  pub none : now.tasks ≡ []

-- the line numbers of the tasks are strictly increasing and below this number, and all pairs and
-- tasks together are fewer than this number
pub record IsOpenBefore (number : ℕ) (open_round : Open) : Type 0 where
  pub rises : IsStrictlyIncreasing (task_lines open_round.tasks)
  pub below : Each (λ task. task.line < number) open_round.tasks
  pub few : length open_round.pairs + length open_round.tasks < number

-- the round of these tasks, if there are any
abbrev pub round_for : List Task → List (List Task)
round_for [] = []
round_for (task ∷ tasks) = (task ∷ tasks) ∷ []

-- these rounds were run, and the open round begins with the map after them
pub record FollowsRounds (team : Team) (most : ℕ) (rounds : List (List Task))
    (before after : Option (List (List ℕ))) (open_round : Open) : Type 0 where
  pub ran : RanRounds team most rounds before after open_round.last open_round.fulls
  pub begins : map_in open_round ≡ map_after_rounds no_pairs rounds
  pub team_is : open_round.team ≡ team
  pub most_is : open_round.words ≡ most

-- whatever rounds were run before, these were run after them
abbrev pub RunsOn : Open → Option (List (List ℕ)) → Open → Option (List (List ℕ))
    → List (List Task) → Type 0
RunsOn old kept new later more =
    (team : Team) (most : ℕ) (rounds : List (List Task)) (before : Option (List (List ℕ)))
    → FollowsRounds team most rounds before kept old
    → FollowsRounds team most (rounds ++ more) before later new
