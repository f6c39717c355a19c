-- Which rounds are run when a line is taken into the open round. Serves the steps of a run.
use Rattle.std.proofs.Common.{◌≡◌, ℕ, ◌<◌, List, [], ◌∷◌, ◌++◌, sym, ◌∙◌, ap, length, arith}
use Rattle.std.specs.Prelude.{Option}
use Rattle.ist_core.specs.declared.commands.Command.{Command}
use Rattle.ist_core.specs.TreeTerms.{no_pairs}
use Rattle.tele_lines.specs.declared.items.Item.{Item}
use Rattle.tele_lines.specs.declared.items.Item.TheVariants.{Point, Interval}
use Rattle.tele_lines.specs.declared.items.Version.{Version}
use Rattle.tele_lines.specs.Answer.{Read, Good}
use Rattle.tele_lines.specs.Rounds.{round_limit}
use Rattle.tele_jobs.specs.Rounds.{task_rounds}
use Rattle.tele_jobs.specs.Open.{Open, RunsOn, with_task, asked, round_for}
use Rattle.tele_jobs.specs.Due.{TakesRounds}
use Rattle.tele_jobs.proofs.RoundLemmas.{task_rounds-full, task_rounds-interval}
use Rattle.tele_jobs.proofs.RanLemmas.{runs_none, runs_then}
use Rattle.tele_jobs.proofs.StepLemmas.{taken_lines}

-- lines that stay open
pub rounds_stay : (old new : Open)
    (kept : Option (List (List ℕ))) (lines now : List Read) → RunsOn old kept new kept []
    → now ≡ lines → TakesRounds old kept new kept lines now
rounds_stay old new kept lines now ran same = grind arith

module _ (version : Version) (number : ℕ) (item : Item)
    (old : Open) (kept : Option (List (List ℕ))) where
  -- the lines of the open round, and this one
  abbrev lines : List Read
  lines = asked version old.tasks ++ Good number version item ∷ []

  module _ (command : Command) (is : item ≡ Point command) (mid : Open)
      (asks : mid ≡ with_task old (record { line = number; command = command })) where
    -- they are the lines of the round with one more task
    same_lines : asked version mid.tasks ≡ lines
    same_lines = taken_lines version no_pairs old.tasks number item command mid.tasks is
        (ap (λ (o : Open). o.tasks) asks)

    -- no round is run
    stays : RunsOn old kept mid kept []
    stays = runs_none old mid (record { line = number; command = command }) kept asks

    -- a point line stays open
    pub rounds_open : TakesRounds old kept mid kept lines (asked version mid.tasks)
    rounds_open = rounds_stay old mid kept lines (asked version mid.tasks) stays same_lines

    -- if the line fills the round, the round is run
    pub rounds_full : (new : Open) (later : Option (List (List ℕ))) → length mid.tasks ≡ round_limit
        → RunsOn mid kept new later (round_for mid.tasks) → new.tasks ≡ []
        → TakesRounds old kept new later lines (asked version new.tasks)
    rounds_full new later full ran none = record {
      more = round_for mid.tasks;
      ran = runs_then old mid new kept kept later [] (round_for mid.tasks) stays ran;
      cut = λ others. ap (λ ls. task_rounds (ls ++ others)) (sym same_lines)
          ∙ task_rounds-full version mid.tasks others full
          ∙ ap (λ ts. round_for mid.tasks ++ task_rounds (asked version ts ++ others)) (sym none);
    }

  -- an interval line ends the round, which is run
  pub rounds_interval : (first last : ℕ) → item ≡ Interval first last
      → length old.tasks < round_limit → (new : Open) (later : Option (List (List ℕ)))
      → RunsOn old kept new later (round_for old.tasks) → new.tasks ≡ []
      → TakesRounds old kept new later lines (asked version new.tasks)
  rounds_interval first last is few new later ran none = record {
    more = round_for old.tasks;
    ran = ran;
    cut = λ others.
        ap (λ i. task_rounds ((asked version old.tasks ++ Good number version i ∷ []) ++ others)) is
        ∙ task_rounds-interval version number first last old.tasks others few
        ∙ ap (λ ts. round_for old.tasks ++ task_rounds (asked version ts ++ others)) (sym none);
  }
