-- How far a table has come: a count of steps that can happen only so often. `src/progress.rt` names the laws.
use Rattle.std.specs.Prelude.{List, [], ◌∷◌, ℕ, ◌+◌, ◌*◌, ◌<◌, ◌≤◌}
use Rattle.ist_core.specs.declared.events.Event.{Event}
use Rattle.ist_core.specs.declared.events.Event.TheVariants.{Install, Resolve, Mark}
use Rattle.ist_core.specs.declared.pairs.Pair.{Pair}
use Rattle.ist_core.specs.declared.lists.Row.{Row}
use Rattle.ist_core.specs.Lawful.{Lawful}
use Rattle.ist_core.specs.Logs.{GoesOn, Happened, Log, Resolves}
use Rattle.ist_core.specs.RowLayout.{place_limit}

-- 1 if the event installs a change, takes one out of its slot or marks a row; else 0
abbrev pub advance_by : Event → ℕ
advance_by (Install caller base rows) = 1
advance_by (Resolve caller base) = 1
advance_by (Mark caller node) = 1
advance_by _ = 0

-- how far the table has come after the log
abbrev pub progress : Log → ℕ
progress [] = 0
progress (event ∷ log) = progress log + advance_by event

-- how far a table can come: three such events for each place
abbrev pub most_progress : ℕ
most_progress = 3 * place_limit

-- a table comes no further than it has words
abbrev pub ProgressIsWithinWords : Type 0
ProgressIsWithinWords =
    (pairs : List Pair) (words : ℕ) (log : Log) → Lawful pairs words log → progress log ≤ words

-- so no table comes further than that
abbrev pub ProgressIsBounded : Type 0
ProgressIsBounded =
    (pairs : List Pair) (words : ℕ) (log : Log) → Lawful pairs words log
    → progress log ≤ most_progress

-- progress never falls
abbrev pub ProgressNeverFalls : Type 0
ProgressNeverFalls = (earlier log : Log) → GoesOn earlier log → progress earlier ≤ progress log

-- if a change was resolved between two logs, the table has come further
abbrev pub ResolvingIsProgress : Type 0
ResolvingIsProgress =
    (earlier log : Log) → GoesOn earlier log → (base : ℕ) → ¬ (Happened (Resolves base) earlier)
    → Happened (Resolves base) log → progress earlier < progress log

-- if a change was installed between two logs, the table has come further
abbrev pub InstallingIsProgress : Type 0
InstallingIsProgress =
    (earlier at log : Log) (caller base : ℕ) (rows : List Row) → GoesOn earlier at
    → GoesOn (Install caller base rows ∷ at) log → progress earlier < progress log
