-- What a run leaves at its end, in addition to its text.
use Rattle.std.specs.Prelude.{◌≡◌, ℕ, List, Option, None}
use Rattle.tele_jobs.specs.declared.options.Options.{Options}
use Rattle.tele_lanes.specs.declared.task_lists.Task.{Task}
use Rattle.tele_jobs.specs.declared.outcomes.Outcome.{Outcome}
use Rattle.tele_jobs.specs.Rounds.{RanRounds, team_of}

-- the rounds were run with these options, and the outcome reports the last one
abbrev pub EndsOn : Options → List (List Task) → Option (List (List ℕ))
    → Option (List (List ℕ)) → Outcome → Type 0
EndsOn options rounds before after outcome =
    RanRounds (team_of options.workers options.steal) options.words rounds before after outcome.last
    outcome.fulls

-- there is no last table, and no full table is counted
pub record HasNoTable (outcome : Outcome) : Type 0 where
  pub last : outcome.last ≡ None
  pub fulls : outcome.fulls ≡ 0
