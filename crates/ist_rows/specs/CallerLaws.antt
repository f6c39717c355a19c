-- What becomes of a caller's rows and changes as its token goes on by its own events. `src/laws.rt`
-- lists the clauses.
use Rattle.std.specs.Prelude.{◌≡◌, ℕ, List, [], ◌∷◌, ◌++◌, Some, None}
use Rattle.ist_core.specs.declared.events.Event.{Event}
use Rattle.ist_core.specs.declared.events.Event.TheVariants.{Reserve, Install, Root, Place, Lose}
use Rattle.ist_core.specs.declared.lists.HeldRow.{HeldRow}
use Rattle.ist_core.specs.Snapshots.{bases_of, without}
use Rattle.ist_rule.specs.declared.view.View.{View}
use Rattle.ist_core.specs.declared.events.Who.TheVariants.{Caller as CallerOf}
use Rattle.ist_core.specs.Authors.{whose}
use Rattle.ist_rule.specs.Faces.{TokenFace}
use Rattle.ist_rule.specs.Learning.{now, Logged, LoggedLoad}
use Rattle.ist_rule.specs.Going.{WentOn}
use Rattle.ist_rule.specs.Conditions.{IsResolved}
use Rattle.ist_rows.specs.declared.callers.Caller.{Caller}
use Rattle.ist_rows.specs.declared.kinds.Kind.{Kind}
use Rattle.ist_rows.specs.declared.kinds.Kind.TheVariants.{Leaf, Pair, Change, Rebuild}
use Rattle.ist_rows.specs.Rows.{Spares, spares_of, row_of, held_by, IsCaller}
use Rattle.ist_rows.specs.Building.{HasRefused}

-- ---- many events

-- the event changes nothing of what its caller holds
abbrev pub KeepsRows : Event → Type 0
KeepsRows (Reserve caller base size) = ⊥
KeepsRows (Install caller change rows) = ⊥
KeepsRows (Root caller rebuild word rows) = ⊥
KeepsRows (Place caller rebuild i word rows) = ⊥
KeepsRows (Lose caller bases) = ⊥
KeepsRows _ = Unit {0}

-- a caller whose token went on by such events is still a caller
abbrev pub CallersGoOn : Type 0
CallersGoOn =
    (who : Caller) (token : TokenFace) → IsCaller who → WentOn KeepsRows who.token.view token.view
    → IsCaller (record who { token = token })

-- its refused builds are still refused
abbrev pub RefusedBuildsStay : Type 0
RefusedBuildsStay =
    (who : Caller) (token : TokenFace) → IsCaller who → HasRefused who
    → WentOn KeepsRows who.token.view token.view → HasRefused (record who { token = token })

-- the event installs nothing
abbrev pub InstallsNone : Event → Type 0
InstallsNone (Install caller change rows) = ⊥
InstallsNone _ = Unit {0}

-- if all changes of a caller are resolved and its token went on by such events, they still are
abbrev pub ChangesStayResolved : Type 0
ChangesStayResolved =
    (v w : View) (number : ℕ) → v.who ≡ CallerOf number → IsResolved v number
    → WentOn InstallsNone v w → IsResolved w number

-- ---- one event

-- the rows that a caller holds after an event of its own, if it held these before
abbrev pub held_after : Event → List HeldRow → List HeldRow
held_after (Reserve caller base size) held =
    held ++ record { caller = caller; base = base; size = size } ∷ []
held_after (Install caller change rows) held = without (bases_of rows) held
held_after (Root caller rebuild word rows) held = without (bases_of rows) held
held_after (Place caller rebuild i word rows) held = without (bases_of rows) held
held_after (Lose caller bases) held = without bases held
held_after _ held = held

-- an event of a caller changes what it holds in exactly this way
abbrev pub EventsMoveRows : Type 0
EventsMoveRows =
    (v w : View) (number : ℕ) (event : Event) → v.who ≡ CallerOf number
    → whose event ≡ CallerOf number → Logged v event w
    → held_by (now w) number ≡ held_after event (held_by (now v) number)

-- so does an event that happened at a load, or at an exchange that failed
abbrev pub LoadsMoveRows : Type 0
LoadsMoveRows =
    (v w : View) (number : ℕ) (event : Event) (place word : ℕ) → v.who ≡ CallerOf number
    → whose event ≡ CallerOf number → LoggedLoad v event place word w
    → held_by (now w) number ≡ held_after event (held_by (now v) number)

-- ---- rows of a kind that are published or lost

-- the event publishes or loses the rows at these bases
abbrev pub GivesUp : Event → List ℕ → Type 0
GivesUp (Install caller change rows) bases = bases_of rows ≡ bases
GivesUp (Root caller rebuild word rows) bases = bases_of rows ≡ bases
GivesUp (Place caller rebuild i word rows) bases = bases_of rows ≡ bases
GivesUp (Lose caller lost) bases = lost ≡ bases
GivesUp _ bases = ⊥

-- the bases of the rows of these kinds
abbrev pub AreBasesOf : List Kind → Spares → List ℕ → Type 0
AreBasesOf [] own [] = Unit {0}
AreBasesOf (kind ∷ kinds) own (base ∷ bases) =
    (row_of kind own ≡ Some base) × AreBasesOf kinds own bases
AreBasesOf _ own _ = ⊥

-- the rows except the one of this kind
abbrev pub without_row : Kind → Spares → Spares
without_row Leaf own = record own { leaf = None }
without_row Pair own = record own { pair = None }
without_row Change own = record own { change = None }
without_row Rebuild own = record own { rebuild = None }

-- the rows except those of these kinds
abbrev pub without_rows : List Kind → Spares → Spares
without_rows [] own = own
without_rows (kind ∷ kinds) own = without_row kind (without_rows kinds own)

-- the caller is the other one, except for its token and the rows of these kinds
pub record IsWithout (kinds : List Kind) (old new : Caller) : Type 0 where
  pub number : new.number ≡ old.number
  pub rows : spares_of new ≡ without_rows kinds (spares_of old)

-- a caller that published or lost its rows of some kinds is one without them
abbrev pub GivenRowsGo : Type 0
GivenRowsGo =
    (old new : Caller) (kinds : List Kind) (event : Event) (bases : List ℕ) → IsCaller old
    → Logged old.token.view event new.token.view → whose event ≡ CallerOf old.number
    → GivesUp event bases → AreBasesOf kinds (spares_of old) bases → IsWithout kinds old new
    → IsCaller new

-- so is one whose event happened at a load, or at an exchange that failed
abbrev pub LostRowsGo : Type 0
LostRowsGo =
    (old new : Caller) (kinds : List Kind) (event : Event) (bases : List ℕ) (place word : ℕ)
    → IsCaller old → LoggedLoad old.token.view event place word new.token.view
    → whose event ≡ CallerOf old.number → GivesUp event bases
    → AreBasesOf kinds (spares_of old) bases → IsWithout kinds old new → IsCaller new

-- its refused builds are still refused
abbrev pub RefusedBuildsAreKept : Type 0
RefusedBuildsAreKept =
    (old new : Caller) (kinds : List Kind) (event : Event) (bases : List ℕ) → IsCaller old
    → HasRefused old → Logged old.token.view event new.token.view
    → whose event ≡ CallerOf old.number → GivesUp event bases
    → AreBasesOf kinds (spares_of old) bases → IsWithout kinds old new → HasRefused new
