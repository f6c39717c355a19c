-- The refusal of the lowest lane that stopped. Serves `run_on_tree`.
use Rattle.std.proofs.Common.{◌≡◌, ℕ, zero, suc, List, [], ◌∷◌, map, refl, ◌∙◌, Option, Some, None, option_map, All, Contains, slice_get, arith}
use Rattle.std.proofs.lemmas.List.Elements.{All-cons}
use Rattle.ist_core.specs.declared.commands.Command.{Command}
use Rattle.ist_core.specs.declared.ports.Full.{Full}
use Rattle.ist_core.specs.LogTerms.{Refused}
use Rattle.tele_lanes.specs.declared.task_lists.Task.{Task}
use Rattle.tele_lanes.specs.Lines.{commands_of}
use Rattle.tele_lanes.specs.Lanes.{first_refusal}
use Rattle.tele_run.specs.Ends.{TreeLane}

-- if there is no refusal, no lane stopped
pub none_stopped : (ends : List TreeLane) → first_refusal (map (λ e. e.stopped) ends) ≡ None
    → All (λ e. e.stopped ≡ None) ends
none_stopped [] h = λ k d lt. absurd (omega arith)
none_stopped (e ∷ ends) h = at e.stopped refl h (none_stopped ends)
  where
    at : (o : Option Full) → e.stopped ≡ o → first_refusal (o ∷ map (λ x. x.stopped) ends) ≡ None
        → (first_refusal (map (λ x. x.stopped) ends) ≡ None → All (λ x. x.stopped ≡ None) ends)
        → All (λ x. x.stopped ≡ None) (e ∷ ends)
    at None is rest more = All-cons (λ (x : TreeLane). x.stopped ≡ None) e ends is (more rest)
    at (Some full) is rest more = absurd (cc)

-- if there is one, a lane stopped with it
pub one_stopped : (ends : List TreeLane) (full : Full)
    → first_refusal (map (λ e. e.stopped) ends) ≡ Some full
    → (e : TreeLane) × Contains ends e × (e.stopped ≡ Some full)
one_stopped [] full h = absurd (cc)
one_stopped (e ∷ ends) full h = at e.stopped refl h (one_stopped ends full)
  where
    at : (o : Option Full) → e.stopped ≡ o
        → first_refusal (o ∷ map (λ x. x.stopped) ends) ≡ Some full
        → (first_refusal (map (λ x. x.stopped) ends) ≡ Some full
        → (x : TreeLane) × Contains ends x × (x.stopped ≡ Some full))
        → (x : TreeLane) × Contains (e ∷ ends) x × (x.stopped ≡ Some full)
    at None is rest more = let it = more rest in let place = it.1 in
        (it.0, (suc place.0, omega (arith, place.1), place.2), it.2)
    at (Some first) is rest more = (e, (zero, omega arith, refl), is ∙ rest)

-- the refusal with a number of words
pub refused_with : (o : Option Refused) (full : Full) → option_map (λ r. r.full) o ≡ Some full
    → (r : Refused) × (o ≡ Some r) × (r.full ≡ full)
refused_with None full e = absurd (cc)
refused_with (Some r) full e = (r, refl, cc)

-- the task with the command at a place
pub task_there : (tasks : List Task) (i : ℕ) (command : Command)
    → slice_get (commands_of tasks) i ≡ Some command
    → (task : Task) × (slice_get tasks i ≡ Some task) × (task.command ≡ command)
task_there [] i command e = absurd (cc)
task_there (t ∷ tasks) zero command e = (t, refl, cc)
task_there (t ∷ tasks) (suc i) command e = task_there tasks i command e
