-- The lines of the open round are strictly increasing, and there are enough of them for its pairs.
-- Serves the steps of a run.
use Rattle.std.proofs.Common.{◌≡◌, ℕ, ◌+◌, ◌<◌, ◌≤◌, List, [], ◌∷◌, ◌++◌, sym, ap, subst, length, arith}
use Rattle.std.proofs.lemmas.List.{length-append}
use Rattle.std.specs.List.Sorted.{IsStrictlyIncreasing}
use Rattle.ist_core.specs.LogTerms.{Each}
use Rattle.ist_core.proofs.AllWordLemmas.{each_append}
use Rattle.ist_core.proofs.AllPlaceLemmas.{rises_append, rises_from_next, next_from_rises}
use Rattle.tele_lanes.specs.declared.task_lists.Task.{Task}
use Rattle.tele_lanes.specs.Lines.{task_lines}
use Rattle.tele_jobs.specs.Rounds.{Team}
use Rattle.tele_jobs.specs.Open.{Open, IsOpenBefore, fresh_round, with_task}

-- lines below a line are below a later one
pub each_below : (low high : ℕ) (tasks : List Task) → low ≤ high → Each (λ task. task.line < low) tasks
    → Each (λ task. task.line < high) tasks
each_below low high [] le h = tt
each_below low high (task ∷ tasks) le h =
    let first = h.0 in (omega arith, each_below low high tasks le h.1)

-- tasks below a task, each below the tasks after it
all_below : (task : Task) (tasks : List Task) → Each (λ t. t.line < task.line) tasks
    → Each (λ t. Each (λ y. t.line < y.line) (task ∷ [])) tasks
all_below task [] h = tt
all_below task (first ∷ tasks) h = ((h.0, tt), all_below task tasks h.1)

-- a round with one more task, of this number
pub open_more : (number : ℕ) (old new : Open) (task : Task) → task.line ≡ number
    → new ≡ with_task old task → IsOpenBefore number old → IsOpenBefore (number + 1) new
open_more number old new task is asks h = let more = ap (λ (o : Open). o.tasks) asks in
    let same = ap (λ (o : Open). o.pairs) asks in
    let below = subst (λ n. Each (λ t. t.line < n) old.tasks) (sym is) h.below in
    let rises = next_from_rises (λ (t : Task). t.line) (old.tasks ++ task ∷ [])
    (rises_append (λ (t : Task). t.line) old.tasks (task ∷ [])
    (rises_from_next (λ (t : Task). t.line) old.tasks h.rises) (tt, tt)
    (all_below task old.tasks below)) in
    record {
      rises = subst (λ ts. IsStrictlyIncreasing (task_lines ts)) (sym more) rises;
      below = subst (λ ts. Each (λ t. t.line < number + 1) ts) (sym more)
          (each_append (λ (t : Task). t.line < number + 1) old.tasks (task ∷ [])
          (each_below number (number + 1) old.tasks (omega arith) h.below) (omega (arith, is), tt));
      few = omega (arith, h.few, ap length more, length-append old.tasks (task ∷ []), ap length same);
    }

-- a round that was closed
pub open_closed : (number : ℕ) (old new : Open) → new.tasks ≡ []
    → length new.pairs ≤ length old.pairs + length old.tasks → IsOpenBefore number old
    → IsOpenBefore number new
open_closed number old new none few h = grind arith

-- the fresh round is open before the first line
pub open_first : (team : Team) (words : ℕ) (o : Open) → o ≡ fresh_round team words
    → IsOpenBefore 1 o
open_first team words o is = grind arith
