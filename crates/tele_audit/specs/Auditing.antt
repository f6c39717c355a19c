-- What the steps of an audit promise each other.
use Rattle.std.specs.Prelude.{◌≡◌, ℕ, ◌+◌, ◌<◌, ◌≤◌, ◌⊎◌, ◌↔◌, Bool, true, false, ◌-◌, ◌==◌, if◌then◌else◌, nat_lt, min, max, List, [], ◌∷◌, ◌++◌, length, reverse, get_or, Option, Some, None}
use Rattle.ist_core.specs.declared.pairs.Pair.{Pair}
use Rattle.ist_core.specs.RowLayout.{next_place}
use Rattle.ist_core.specs.References.{Ref, InnerAt, ref_of}
use Rattle.ist_core.specs.Elements.{Each}
use Rattle.ist_rest.specs.declared.slots.SlotLeft.{SlotLeft}
use Rattle.tele_audit.specs.declared.tasks.AuditTask.{AuditTask}
use Rattle.ist_rest.specs.WordRows.{word_at, row_degree, row_keys, row_slots, Span, rows_on}
use Rattle.ist_rest.specs.Walks.{Visit, LeadsBy, IsGood, IsGoodAs, Reads, row_read, rows_read, pairs_read, Walks, first_visit, AreApart}
use Rattle.ist_rest.specs.RestingWords.{AreLawful, read_on, BreaksFirstAt}

-- ---- marks

-- the place lies in a row
abbrev pub IsIn : Span → ℕ → Type 0
IsIn span place = (span.base ≤ place) × (place < span.base + span.size)

-- the place lies in one of some rows
abbrev pub Covered : List Span → ℕ → Type 0
Covered [] place = ⊥
Covered (span ∷ spans) place = IsIn span place ⊎ Covered spans place

-- the places of these rows are marked, and no others; each row has a word
pub record AreMarked (marks : List Bool) (seen : List Span) : Type 0 where
  pub each : (place : ℕ) → place < length marks → (get_or marks place false ≡ true) ↔ Covered seen
      place
  pub some : Each (λ span. 0 < span.size) seen

-- ---- tasks

-- the key is below the bound, if there is one
abbrev pub IsUnderBound : Option ℕ → ℕ → Type 0
IsUnderBound None key = Unit {0}
IsUnderBound (Some high) key = key < high

-- the key is in the task's interval
abbrev pub IsInInterval : AuditTask → ℕ → Type 0
IsInInterval task key = (task.low ≤ key) × IsUnderBound task.high key

-- the task is for this slot: exactly the keys of its interval lead there
pub record IsTaskOf (visit : Visit) (task : AuditTask) : Type 0 where
  pub place : task.place ≡ visit.place
  pub word : task.word ≡ visit.word
  pub node : task.node ≡ visit.node
  pub leads : (key : ℕ) → IsInInterval task key ↔ Each (LeadsBy key) visit.ways

-- the tasks are for these slots, one each, in order
pub data AreTasksOf : List Visit → List AuditTask → Type 0 where
  no_task : AreTasksOf [] []
  one_task : {visit : Visit} {visits : List Visit} {task : AuditTask} {tasks : List AuditTask}
      → IsTaskOf visit task
      → AreTasksOf visits tasks → AreTasksOf (visit ∷ visits) (task ∷ tasks)

-- the lowest key of child i of a row with these keys
abbrev pub low_of : ℕ → List ℕ → ℕ → ℕ
low_of low keys i = if i == 0 then low else max low (get_or keys (i - 1) 0)

-- the lower of a bound, if there is one, and a key
abbrev pub lower_of : Option ℕ → ℕ → ℕ
lower_of None key = key
lower_of (Some high) key = min high key

-- the bound above the keys of child i, if there is one
abbrev pub high_of : Option ℕ → List ℕ → ℕ → Option ℕ
high_of high keys i = if nat_lt i (length keys) then Some (lower_of high (get_or keys i 0)) else
    high

-- the task for child i
abbrev pub child_task : ℕ → AuditTask → List ℕ → ℕ → ℕ → ℕ → AuditTask
child_task base task keys i place word =
    record {
      place = place;
      word = word;
      node = base;
      low = low_of task.low keys i;
      high =
          high_of task.high keys i;
    }

-- the tasks for the slots of a row from number i on
abbrev pub tasks_from : ℕ → AuditTask → List ℕ → ℕ → ℕ → List ℕ → List AuditTask
tasks_from base task keys i place [] = []
tasks_from base task keys i place (word ∷ words) =
    child_task base task keys i place word ∷ tasks_from base task keys (i + 1) (place + 1) words

-- the tasks for all slots of a row
abbrev pub tasks_in_row : List ℕ → ℕ → AuditTask → List AuditTask
tasks_in_row words base task =
    tasks_from base task (row_keys words base) 0 (base + 3 + row_degree words base)
    (row_slots words base)

-- ---- claims

-- each row has a word, and there is a mark for each of its words
abbrev pub AllFit : List Bool → List Span → Type 0
AllFit marks spans = Each (λ span. (0 < span.size) × (span.base + span.size ≤ length marks)) spans

-- the rows share no word with those that were read, nor with each other, and their words are now
-- marked
pub record AreClaimed (old new : List Bool) (spans : List Span) : Type 0 where
  pub all : (seen : List Span) → AreMarked old seen → AreApart seen spans
      × AreMarked new (read_on seen spans)

-- one of the rows shares a word with a row that was read, or with another of them
pub record AreRefused (old : List Bool) (spans : List Span) : Type 0 where
  pub none : (seen : List Span) → AreMarked old seen → AreApart seen spans → ⊥

-- the tasks for the slots below what a slot reads as
abbrev pub tasks_below : List ℕ → AuditTask → Ref → List AuditTask
tasks_below words task (InnerAt base) = tasks_in_row words base task
tasks_below words task _ = []

-- the slot of a task is in good shape, its rows are now marked, and what it holds was added to the
-- tasks or the pairs
pub record PassesSlot (words : List ℕ) (task : AuditTask) (old new : List Bool)
    (left more : List AuditTask) (found pairs : List Pair) : Type 0 where
  pub ref : Ref
  pub reads : Reads words task.word ref
  pub good : (visit : Visit) → IsTaskOf visit task → IsGoodAs words visit ref
  pub claimed : AreClaimed old new (rows_on words (ref_of task.word) ++ row_read words ref)
  pub tasks : more ≡ left ++ reverse (tasks_below words task ref)
  pub pairs_are : pairs ≡ found ++ pairs_read words ref

-- the slot of a task isn't in good shape, or shares a word with a row that was read
pub record FailsSlot (words : List ℕ) (task : AuditTask) (old : List Bool) : Type 0 where
  pub none : (visit : Visit) → IsTaskOf visit task → (seen : List Span) → AreMarked old seen
      → (at : IsGood words visit) → AreApart seen (rows_read words visit at.ref) → ⊥

-- how far an audit has come: what it found, and what is still to visit, make the walk
pub record HasAudited (words : List ℕ) (marks : List Bool) (left : List AuditTask)
    (found : List Pair) : Type 0 where
  pub seen : List Span
  pub visits : List Visit
  pub long : length marks ≡ word_at words next_place
  pub marked : AreMarked marks seen
  pub tasks : AreTasksOf visits (reverse left)
  pub whole : (rows : List Span) (pairs : List Pair) → Walks words visits rows pairs
      → AreApart seen rows → AreLawful words (found ++ pairs)
  pub broken : (place : ℕ) → BreaksFirstAt words seen visits place → BreaksFirstAt words []
      (first_visit words ∷ []) place

-- the slot of a task
abbrev pub slot_of_task : AuditTask → SlotLeft
slot_of_task task = record { word = task.word; node = task.node }
