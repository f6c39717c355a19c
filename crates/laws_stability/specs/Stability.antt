-- The stability law: an event that is enabled stays enabled under events of others. `src/stability.rt`
-- lists its clauses.
use Rattle.std.specs.Prelude.{Bool, List, Some, ℕ, ◌+◌, ◌≡◌}
use Rattle.ist_core.specs.declared.events.Event.{Event}
use Rattle.ist_core.specs.declared.events.Event.TheVariants.{Count, Decide, Draw, Enter, Finish, Install, Lose, Mark, Okay, Pass, Place, Reserve, Resolve, Root}
use Rattle.ist_core.specs.declared.events.Who.TheVariants.{Caller}
use Rattle.ist_core.specs.declared.lists.Row.{Row}
use Rattle.ist_core.specs.declared.pairs.Pair.{Pair}
use Rattle.ist_core.specs.declared.states.ChangeRow.{ChangeRow}
use Rattle.ist_core.specs.Deciding.{AllResolvedOf}
use Rattle.ist_core.specs.Enabled.{Enabled}
use Rattle.ist_core.specs.ImageLaws.{IsNoLose}
use Rattle.ist_core.specs.Lawful.{Lawful, state_of}
use Rattle.ist_core.specs.Logs.{GoesOn, Log}
use Rattle.ist_core.specs.RowLayout.{rebuild_draw_offset}
use Rattle.ist_core.specs.Snapshots.{Snapshot}
use Rattle.ist_core.specs.StartLayout.{start}
use Rattle.ist_core.specs.Writing.{first_change, touch_of}
use Rattle.laws_stability.specs.Meanwhile.{IsMarked, IsStillUndecided, NoneAccepted, NoneRefused}
use Rattle.ist_core.specs.Authors.{Later, whose}
use Rattle.ist_core.specs.Shown.{IsShown}
use Rattle.laws_stability.specs.Words.{FindsItsWord}

-- if the event is enabled after a log, it is enabled after each longer lawful log whose further
-- events are made by others and for which P is true of the two states
abbrev pub StaysWhere : (Snapshot → Snapshot → Type 0) → Event → Type 0
StaysWhere P event =
    (pairs : List Pair) (words : ℕ) (earlier log : Log) → Lawful pairs words log
    → Later (whose event) earlier log → Enabled (start pairs words) earlier event
    → P (state_of pairs words earlier) (state_of pairs words log)
    → Enabled (start pairs words) log event

-- the event stays enabled if its word is still the one that it expects
abbrev pub StaysAtItsWord : Event → Type 0
StaysAtItsWord event = StaysWhere (λ t u. FindsItsWord t u event) event

-- the event stays enabled, whatever its word
abbrev pub StaysAlways : Event → Type 0
StaysAlways event = StaysWhere (λ t u. Unit {0}) event

-- ---- events that need only their word, or nothing

-- an Enter needs nothing: only the maker enters callers
abbrev pub EntersStay : Type 0
EntersStay = (caller : ℕ) → StaysAlways (Enter caller)

-- a Reserve needs the first free word
abbrev pub ReservesStay : Type 0
ReservesStay = (caller base size : ℕ) → StaysAtItsWord (Reserve caller base size)

-- a Decide, whether yes or no, needs the change undecided
abbrev pub DecidesStay : Type 0
DecidesStay = (caller base : ℕ) (said : Bool) → StaysAtItsWord (Decide caller base said)

-- a Resolve needs the change in its slot
abbrev pub ResolvesStay : Type 0
ResolvesStay = (caller base : ℕ) → StaysAtItsWord (Resolve caller base)

-- a Mark needs the node open
abbrev pub MarksStay : Type 0
MarksStay = (caller node : ℕ) → StaysAtItsWord (Mark caller node)

-- a Finish needs the node marked
abbrev pub FinishesStay : Type 0
FinishesStay = (caller node keys : ℕ) → StaysAtItsWord (Finish caller node keys)

-- a Root needs the rebuild without a root
abbrev pub RootsStay : Type 0
RootsStay =
    (caller rebuild word : ℕ) (rows : List Row)
    → StaysAtItsWord (Root caller rebuild word rows)

-- a Place needs the slot Unset
abbrev pub PlacesStay : Type 0
PlacesStay =
    (caller rebuild i word : ℕ) (rows : List Row)
    → StaysAtItsWord (Place caller rebuild i word rows)

-- a Draw needs the draw word
abbrev pub DrawsStay : Type 0
DrawsStay = (caller rebuild part : ℕ) → StaysAtItsWord (Draw caller rebuild part)

-- once the draw word has grown, the Draw of the part that it then names is enabled
abbrev pub DrawsGoOn : Type 0
DrawsGoOn =
    (pairs : List Pair) (words : ℕ) (earlier log : Log) → Lawful pairs words log
    → (caller rebuild part now : ℕ) → Later (Caller caller) earlier log
    → Enabled (start pairs words) earlier (Draw caller rebuild part)
    → IsShown (state_of pairs words log) (rebuild + rebuild_draw_offset) now
    → Enabled (start pairs words) log (Draw caller rebuild now)

-- a Lose touches no word, and needs nothing
abbrev pub LosesStay : Type 0
LosesStay = (caller : ℕ) (bases : List ℕ) → StaysAlways (Lose caller bases)

-- ---- events that others may disable though their word stays

-- an Install needs `from` in its slot, and that no change of the caller on that node was decided no
-- meanwhile
abbrev pub InstallsStay : Type 0
InstallsStay =
    (caller base : ℕ) (rows : List Row)
    → StaysWhere
    (λ t u. FindsItsWord t u (Install caller base rows)
    × ((change : ChangeRow) → first_change rows ≡ Some change
    → NoneRefused t u caller change.node))
    (Install caller base rows)

-- a Count needs no word of its own, but it needs that no put or remove of the caller was decided
-- yes meanwhile
abbrev pub CountsStay : Type 0
CountsStay = (caller node : ℕ) → StaysWhere (λ t u. NoneAccepted t u caller) (Count caller node)

-- an Okay loads a status, and needs the change undecided too
abbrev pub OkaysStay : Type 0
OkaysStay =
    (caller base : ℕ)
    → StaysWhere (λ t u. FindsItsWord t u (Okay caller base) × IsStillUndecided u base)
    (Okay caller base)

-- a Pass loads a slot, and needs the node marked too
abbrev pub PassesStay : Type 0
PassesStay =
    (caller node i word : ℕ)
    → StaysWhere (λ t u. FindsItsWord t u (Pass caller node i word) × IsMarked u node)
    (Pass caller node i word)

-- ---- the premises

-- if all that the caller installed is resolved, nothing of it is pending, so nothing of it is
-- decided meanwhile
abbrev pub ResolvedChangesAreQuiet : Type 0
ResolvedChangesAreQuiet =
    (pairs : List Pair) (words : ℕ) (earlier log : Log) → Lawful pairs words log
    → GoesOn earlier log → (caller : ℕ)
    → AllResolvedOf (state_of pairs words earlier) earlier caller
    → ((node : ℕ)
    → NoneRefused (state_of pairs words earlier) (state_of pairs words log) caller node)
    × NoneAccepted (state_of pairs words earlier) (state_of pairs words log) caller

-- ---- places

-- a place has at most one word
abbrev pub PlacesHaveOneWord : Type 0
PlacesHaveOneWord =
    (pairs : List Pair) (words : ℕ) (log : Log) → Lawful pairs words log → (place word other : ℕ)
    → IsShown (state_of pairs words log) place word
    → IsShown (state_of pairs words log) place other
    → word ≡ other

-- if an event other than a Lose is enabled, its word is the one that it expects
abbrev pub EventsFindTheirWord : Type 0
EventsFindTheirWord =
    (pairs : List Pair) (words : ℕ) (log : Log) (event : Event) → Lawful pairs words log
    → Enabled (start pairs words) log event → IsNoLose event
    → FindsItsWord (state_of pairs words log) (state_of pairs words log) event

-- every event but an Enter, a Count and a Draw, which add to what they find
abbrev pub AddsNothing : Event → Type 0
AddsNothing (Enter caller) = ⊥
AddsNothing (Count caller node) = ⊥
AddsNothing (Draw caller rebuild part) = ⊥
AddsNothing _ = Unit {0}

-- such an event touches after the longer log what it touched after the shorter one: the same place,
-- and it expects and leaves the same words there
abbrev pub TouchesStay : Type 0
TouchesStay =
    (pairs : List Pair) (words : ℕ) (earlier log : Log) (event : Event) → Lawful pairs words log
    → GoesOn earlier log → Enabled (start pairs words) earlier event → AddsNothing event
    → touch_of (state_of pairs words log) event ≡ touch_of (state_of pairs words earlier) event
