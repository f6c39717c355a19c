-- Which rounds of made lines were run, and which are still due. Serves the summing up of made lines.
use Rattle.std.proofs.Common.{◌≡◌, ℕ, ◌+◌, ◌-◌, ◌<◌, ◌≤◌, List, [], ◌∷◌, ◌++◌, sym, ◌∙◌, ap, subst, append_assoc, length, arith, Bool, true, false}
use Rattle.std.proofs.lemmas.Bool.{cases_lt}
use Rattle.std.proofs.lemmas.List.{length-append}
use Rattle.std.specs.Prelude.{Option}
use Rattle.tele_lanes.specs.declared.task_lists.Task.{Task}
use Rattle.tele_lines.specs.declared.items.Version.TheVariants.{One}
use Rattle.tele_lines.specs.Answer.{Read}
use Rattle.tele_lines.specs.Rounds.{round_limit}
use Rattle.tele_jobs.specs.Made.{next_number, made_command, made_commands}
use Rattle.tele_jobs.specs.Rounds.{Team, task_rounds, numbered_lines, made_rounds}
use Rattle.tele_jobs.specs.Open.{Open, FollowsRounds, RunsOn, IsOpenBefore, with_task, asked, fresh_round, round_for}
use Rattle.tele_jobs.proofs.RoundLemmas.{task_rounds-full, task_rounds-open}
use Rattle.tele_jobs.proofs.MadeLemmas.{next_made}
use Rattle.tele_jobs.proofs.OpenLemmas.{open_first, open_more, open_closed}
use Rattle.tele_jobs.proofs.RanLemmas.{none_ran, runs_none, runs_then}
use Rattle.tele_jobs.proofs.StepLemmas.{asked-more}

-- the lines that are still to be made, numbered on
abbrev pub rest_lines : ℕ → ℕ → ℕ → List Read
rest_lines count line number = numbered_lines (line + 1) (made_commands (count - line) number)

-- at a moment between two made lines: the rounds that were run, with the rounds of the open lines
-- and of the lines left, are the rounds of all lines
pub record RunsMade (team : Team)
    (most count seed line number : ℕ) (before kept : Option (List (List ℕ))) (now : Open) : Type 0 where
  pub ran : List (List Task)
  pub has : FollowsRounds team most ran before kept now
  pub due : made_rounds count seed
      ≡ ran ++ task_rounds (asked One now.tasks ++ rest_lines count line number)
  pub few : length now.tasks < round_limit
  pub lines : IsOpenBefore (line + 1) now

-- one more line is the first of those that are left
asked_next : (count line number : ℕ) (old new : List Task) (task : Task) → line < count
    → task.line ≡ line + 1 → task.command ≡ made_command (next_number number)
    → new ≡ old ++ task ∷ [] → asked One old ++ rest_lines count line number
    ≡ asked One new ++ rest_lines count (line + 1) (next_number number)
asked_next count line number old new task lt at command more =
    let rest = made_commands (count - (line + 1)) (next_number number) in
    let lines = numbered_lines (line + 1 + 1) rest in
    ap (λ cs. asked One old ++ numbered_lines (line + 1) cs)
    (next_made count line number lt ∙ ap (λ c. c ∷ rest) (sym command))
    ∙ ap (λ n. asked One old
    ++ (asked One (record { line = n; command = task.command } ∷ []) ++ lines)) (sym at)
    ∙ sym (append_assoc {A = Read} (asked One old) (asked One (task ∷ [])) lines)
    ∙ ap (λ ls. ls ++ lines) (sym (asked-more One old new task more))

-- a round that isn't full with one more line may have another
pub still_few : (old mid : Open) (task : Task) (full : Bool)
    → mid ≡ with_task old task → length old.tasks < round_limit
    → (length mid.tasks ≡ round_limit → full ≡ true) → full ≡ false → length mid.tasks < round_limit
still_few old mid task full asks few fills isnt = grind (arith, length-append, cases_lt)

module _ (team : Team) (most count seed : ℕ) (before : Option (List (List ℕ))) where
  -- the rounds of a run over made lines, at a line
  abbrev pub Runs : ℕ → ℕ → Option (List (List ℕ)) → Open → Type 0
  Runs line number kept now = RunsMade team most count seed line number before kept now

  -- before the first line
  pub made_first : (number : ℕ) (now : Open) → number ≡ seed → now ≡ fresh_round team most
      → Runs 0 number before now
  made_first number now is fresh = grind (arith, none_ran, open_first)

  module _ (line number next : ℕ) (kept : Option (List (List ℕ))) (old mid : Open) (task : Task)
      (lt : line < count) (at : task.line ≡ line + 1)
      (command : task.command ≡ made_command (next_number number)) (is : next ≡ next_number number)
      (asks : mid ≡ with_task old task) (h : Runs line number kept old) where
    -- the round may take one more line
    pub lines_more : IsOpenBefore (line + 1 + 1) mid
    lines_more = open_more (line + 1) old mid task at asks h.lines

    -- no round is run for it
    stays : RunsOn old kept mid kept []
    stays = runs_none old mid task kept asks

    due_then : made_rounds count seed
        ≡ h.ran ++ task_rounds (asked One mid.tasks ++ rest_lines count (line + 1) next)
    due_then = grind (arith, asked_next)

    -- one more line is open
    pub made_asked : length mid.tasks < round_limit → Runs (line + 1) next kept mid
    made_asked few = grind (arith, stays, due_then, lines_more)

    -- if it fills the round, the round is run
    pub made_closed : (new : Open) (later : Option (List (List ℕ))) → length mid.tasks ≡ round_limit
        → RunsOn mid kept new later (round_for mid.tasks) → new.tasks ≡ []
        → length new.pairs ≤ length mid.pairs + length mid.tasks → Runs (line + 1) next later new
    made_closed new later full ran none few = record {
      ran = h.ran ++ round_for mid.tasks;
      has = runs_then old mid new kept kept later [] (round_for mid.tasks) stays ran
          team most h.ran before h.has;
      due = due_then ∙ ap (λ rs. h.ran ++ rs)
          (task_rounds-full One mid.tasks (rest_lines count (line + 1) next) full)
          ∙ sym (append_assoc {A = List Task} h.ran (round_for mid.tasks)
          (task_rounds (rest_lines count (line + 1) next)))
          ∙ ap (λ ts. (h.ran ++ round_for mid.tasks)
          ++ task_rounds (asked One ts ++ rest_lines count (line + 1) next)) (sym none);
      few = omega (arith, ap length none);
      lines = open_closed (line + 1 + 1) mid new none few lines_more;
    }

  -- all lines were made, and the last round is run
  pub made_last : (line number : ℕ) (kept : Option (List (List ℕ))) (old new : Open)
      (later : Option (List (List ℕ))) → count ≤ line → Runs line number kept old
      → RunsOn old kept new later (round_for old.tasks)
      → FollowsRounds team most (made_rounds count seed) before later new
  made_last line number kept old new later le h ran =
      let nothing : made_commands (count - line) number ≡ [] =
      let e : count - line ≡ 0 = omega arith in ap (λ n. made_commands n number) e in
      let due : made_rounds count seed ≡ h.ran ++ round_for old.tasks =
      h.due ∙ ap (λ cs. h.ran ++ task_rounds (asked One old.tasks ++ numbered_lines (line + 1) cs)) nothing
      ∙ ap (λ rs. h.ran ++ rs) (task_rounds-open One old.tasks h.few) in
      subst (λ rs. FollowsRounds team most rs before later new) (sym due)
      (ran team most h.ran before h.has)
