-- Where lines are cut into rounds, and which rounds are whole. Serves the answering of rounds.
use Rattle.std.proofs.Common.{◌≡◌, ℕ, ◌+◌, ◌<◌, List, [], ◌∷◌, ◌++◌, Bool, true, false, refl, ◌∙◌, ap, length, arith, eqb, sym, append_assoc, append-nil}
use Rattle.std.specs.Prelude.{if◌then◌else◌}
use Rattle.std.specs.List.{filter, flat_map, onto_first, list_any, count_by}
use Rattle.std.proofs.lemmas.Bool.{eq-eqb, ne_eqb}
use Rattle.std.proofs.lemmas.List.Folds.{list_any-append}
use Rattle.std.proofs.lemmas.List.Sums.{sum_by-cons}
use Rattle.std.proofs.Math.Bool.{or-true}
use Rattle.tele_lanes.specs.declared.task_lists.Task.{Task}
use Rattle.tele_lines.specs.declared.items.Item.TheVariants.{Point, Interval}
use Rattle.tele_lines.specs.declared.items.Version.{Version}
use Rattle.tele_lines.specs.declared.items.Cause.{Cause}
use Rattle.tele_lines.specs.Answer.{Read, Good, Bad}
use Rattle.tele_lines.specs.Rounds.{round_limit, rounds, rounds_from, is_whole, is_point, is_interval, in_whole_rounds}
use Rattle.tele_jobs.specs.Open.{asked, round_for}
use Rattle.tele_jobs.specs.Rounds.{tasks_in, has_some, task_rounds}

-- a task as a line
abbrev line_of : Version → Task → Read
line_of version task = Good task.line version (Point task.command)

-- what follows a line, by whether a cut is made there
abbrev after_line : Read → ℕ → List Read → Bool → List (List Read)
after_line line n others cut = if cut then (line ∷ []) ∷ rounds_from 0 others else onto_first line
    (rounds_from (n + 1) others)

-- as many point lines as a round has at most are one round
pub cut_full : (version : Version) (n : ℕ) (task : Task) (tasks : List Task) (more : List Read)
    → n + length (task ∷ tasks) ≡ round_limit
    → rounds_from n (asked version (task ∷ tasks) ++ more) ≡ asked version (task ∷ tasks) ∷ rounds
    more
cut_full version n task [] more full = grind (arith, eq-eqb)
cut_full version n task (next ∷ tasks) more full =
    ap (after_line (line_of version task) n (asked version (next ∷ tasks) ++ more))
    (ne_eqb (n + 1) round_limit (λ e. omega (arith, full, e)))
    ∙ ap (onto_first (line_of version task))
    (cut_full version (n + 1) next tasks more (omega (arith, full)))

-- fewer point lines, and an interval line after them, are one round
pub cut_interval : (version : Version) (n number first last : ℕ) (tasks : List Task) (more : List Read)
    → n + length tasks < round_limit
    → rounds_from n (asked version tasks ++ Good number version (Interval first last) ∷ more)
    ≡ (asked version tasks ++ Good number version (Interval first last) ∷ []) ∷ rounds more
cut_interval version n number first last [] more few = refl
cut_interval version n number first last (task ∷ tasks) more few =
    ap (after_line (line_of version task) n
    (asked version tasks ++ Good number version (Interval first last) ∷ more))
    (ne_eqb (n + 1) round_limit (λ e. omega (arith, few, e)))
    ∙ ap (onto_first (line_of version task))
    (cut_interval version (n + 1) number first last tasks more (omega (arith, few)))

-- fewer point lines are one round, if they are any
pub cut_open : (version : Version) (n : ℕ) (task : Task) (tasks : List Task) → n + length (task ∷ tasks)
    < round_limit → rounds_from n (asked version (task ∷ tasks)) ≡ asked version (task ∷ tasks) ∷ []
cut_open version n task [] few = grind (arith, ne_eqb)
cut_open version n task (next ∷ tasks) few =
    ap (after_line (line_of version task) n (asked version (next ∷ tasks)))
    (ne_eqb (n + 1) round_limit (λ e. omega (arith, few, e)))
    ∙ ap (onto_first (line_of version task))
    (cut_open version (n + 1) next tasks (omega (arith, few)))

-- fewer point lines, and a bad line after them, are one round
pub cut_bad : (version : Version) (n line : ℕ) (cause : Cause) (tasks : List Task)
    → n + length tasks < round_limit → rounds_from n (asked version tasks ++ Bad line cause ∷ [])
    ≡ (asked version tasks ++ Bad line cause ∷ []) ∷ []
cut_bad version n line cause [] few = refl
cut_bad version n line cause (task ∷ tasks) few =
    ap (after_line (line_of version task) n (asked version tasks ++ Bad line cause ∷ []))
    (ne_eqb (n + 1) round_limit (λ e. omega (arith, few, e)))
    ∙ ap (onto_first (line_of version task))
    (cut_bad version (n + 1) line cause tasks (omega (arith, few)))

-- tasks are point lines
all_points : (version : Version) (tasks : List Task) → count_by is_point (asked version tasks) ≡
    length tasks
all_points version [] = refl
all_points version (task ∷ tasks) =
    sum_by-cons (λ line. if is_point line then 1 else 0) (line_of version task)
    (asked version tasks) ∙ omega (arith, all_points version tasks)

-- tasks are not interval lines
no_interval : (version : Version) (tasks : List Task) → list_any is_interval (asked version tasks) ≡
    false
no_interval version [] = refl
no_interval version (task ∷ tasks) = no_interval version tasks

-- a round of point lines is whole if it has as many as a round may have
whole_by_count : (version : Version) (tasks : List Task) → is_whole (asked version tasks) ≡ eqb
    (length tasks) round_limit
whole_by_count version tasks = grind (arith, no_interval, all_points)

-- a round with an interval line is whole
whole_by_interval : (version : Version) (number first last : ℕ) (tasks : List Task)
    → is_whole (asked version tasks ++ Good number version (Interval first last) ∷ []) ≡ true
whole_by_interval version number first last tasks = grind (arith, list_any-append, or-true)

-- the lines of a first whole round and of the rounds after it
whole_first : (lines round more : List Read) → rounds lines ≡ round ∷ rounds more → is_whole round ≡
    true → in_whole_rounds lines ≡ round ++ in_whole_rounds more
whole_first lines round more cut whole = grind arith

-- a full round precedes the rounds of the lines after it
pub in_whole-full : (version : Version) (tasks : List Task) (more : List Read) → length tasks ≡
    round_limit
    → in_whole_rounds (asked version tasks ++ more) ≡ asked version tasks ++ in_whole_rounds more
in_whole-full version [] more full = absurd (omega (arith, full))
in_whole-full version (task ∷ tasks) more full =
    whole_first (asked version (task ∷ tasks) ++ more) (asked version (task ∷ tasks)) more
    (cut_full version 0 task tasks more (omega (arith, full)))
    (whole_by_count version (task ∷ tasks) ∙ eq-eqb _ round_limit full)

-- a round that an interval line ends precedes the rounds of the lines after it
pub in_whole-interval : (version : Version) (number first last : ℕ) (tasks : List Task)
    (more : List Read) → length tasks < round_limit
    → in_whole_rounds (asked version tasks ++ Good number version (Interval first last) ∷ more)
    ≡ (asked version tasks ++ Good number version (Interval first last) ∷ []) ++ in_whole_rounds
    more
in_whole-interval version number first last tasks more few =
    grind (arith, whole_first, cut_interval, whole_by_interval)

-- no line of an open round is in a whole one
pub in_whole-open : (version : Version) (tasks : List Task) → length tasks < round_limit
    → in_whole_rounds (asked version tasks) ≡ []
in_whole-open version [] few = refl
in_whole-open version (task ∷ tasks) few = let round = asked version (task ∷ tasks) in
    ap (λ rs. flat_map (λ r. r) (filter is_whole rs))
    (cut_open version 0 task tasks (omega (arith, few)))
    ∙ ap (λ b. flat_map (λ r. r) (if b then round ∷ [] else []))
    (whole_by_count version (task ∷ tasks) ∙ ne_eqb _ round_limit (λ e. omega (arith, few, e)))

-- ---- the tasks of the rounds into which lines are cut. Serves the tables of the rounds.

-- the tasks of point lines and of the lines after them
tasks_in-asked : (version : Version) (tasks : List Task) (more : List Read)
    → tasks_in (asked version tasks ++ more) ≡ tasks ++ tasks_in more
tasks_in-asked version [] more = refl
tasks_in-asked version (task ∷ tasks) more =
    ap (λ ts. task ∷ ts) (tasks_in-asked version tasks more)

-- the tasks of point lines, if no line after them asks for a task
tasks_in-alone : (version : Version) (tasks : List Task) (more : List Read) → tasks_in more ≡ []
    → tasks_in (asked version tasks ++ more) ≡ tasks
tasks_in-alone version tasks more none =
    tasks_in-asked version tasks more ∙ ap (λ ts. tasks ++ ts) none ∙ append-nil tasks

-- a first round is left out if it has no task
first_round : (tasks : List Task) (others : List (List Task))
    → filter has_some (tasks ∷ others) ≡ round_for tasks ++ filter has_some others
first_round [] others = refl
first_round (task ∷ tasks) others = refl

-- the tasks of a first round and of the rounds after it
task_rounds-first : (tasks : List Task) (lines round more : List Read)
    → rounds lines ≡ round ∷ rounds more → tasks_in round ≡ tasks
    → task_rounds lines ≡ round_for tasks ++ task_rounds more
task_rounds-first tasks lines round more cut is = grind (arith, first_round)

-- as many point lines as a round has at most are one round
pub task_rounds-full : (version : Version) (tasks : List Task) (more : List Read)
    → length tasks ≡ round_limit
    → task_rounds (asked version tasks ++ more) ≡ round_for tasks ++ task_rounds more
task_rounds-full version [] more full = absurd (omega (arith, full))
task_rounds-full version (task ∷ tasks) more full =
    task_rounds-first (task ∷ tasks) (asked version (task ∷ tasks) ++ more)
    (asked version (task ∷ tasks)) more (cut_full version 0 task tasks more (omega (arith, full)))
    (ap tasks_in (sym (append-nil (asked version (task ∷ tasks))))
    ∙ tasks_in-alone version (task ∷ tasks) [] refl)

-- fewer point lines, and an interval line after them, are one round
pub task_rounds-interval : (version : Version) (number first last : ℕ) (tasks : List Task)
    (more : List Read) → length tasks < round_limit
    → task_rounds ((asked version tasks ++ Good number version (Interval first last) ∷ []) ++ more)
    ≡ round_for tasks ++ task_rounds more
task_rounds-interval version number first last tasks more few =
    let line = Good number version (Interval first last) in
    ap task_rounds (append_assoc {A = Read} (asked version tasks) (line ∷ []) more)
    ∙ task_rounds-first tasks (asked version tasks ++ line ∷ more)
    (asked version tasks ++ line ∷ []) more
    (cut_interval version 0 number first last tasks more (omega (arith, few)))
    (tasks_in-alone version tasks (line ∷ []) refl)

-- fewer point lines at the end are one round
pub task_rounds-open : (version : Version) (tasks : List Task) → length tasks < round_limit
    → task_rounds (asked version tasks ++ []) ≡ round_for tasks
task_rounds-open version [] few = refl
task_rounds-open version (task ∷ tasks) few =
    ap task_rounds (append-nil (asked version (task ∷ tasks)))
    ∙ task_rounds-first (task ∷ tasks) (asked version (task ∷ tasks))
    (asked version (task ∷ tasks)) [] (cut_open version 0 task tasks (omega (arith, few)))
    (ap tasks_in (sym (append-nil (asked version (task ∷ tasks))))
    ∙ tasks_in-alone version (task ∷ tasks) [] refl)
    ∙ append-nil (round_for (task ∷ tasks))

-- fewer point lines before a bad line are one round
pub task_rounds-bad : (version : Version) (line : ℕ) (cause : Cause) (tasks : List Task)
    → length tasks < round_limit
    → task_rounds (asked version tasks ++ Bad line cause ∷ []) ≡ round_for tasks
task_rounds-bad version line cause tasks few =
    grind (arith, task_rounds-first, cut_bad, tasks_in-alone)
