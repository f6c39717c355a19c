-- Callers and their rows: which rows belong to one caller, and what a reserving returns.
use Rattle.std.specs.Prelude.{◌≡◌, ℕ, ◌<◌, ◌==◌, ◌||◌, not, Bool, false, List, map, filter, Option, Some, None, Result, IfOk}
use Rattle.ist_core.specs.declared.lists.HeldRow.{HeldRow}
use Rattle.ist_core.specs.declared.ports.Full.{Full}
use Rattle.ist_core.specs.declared.events.Event.TheVariants.{Reserve}
use Rattle.ist_core.specs.Snapshots.{Snapshot, HoldsRow}
use Rattle.ist_core.specs.RowLayout.{next_place}
use Rattle.ist_core.specs.Fairness.{AreBuilds}
use Rattle.ist_rule.specs.Faces.{TableFace}
use Rattle.ist_rule.specs.declared.view.View.{View}
use Rattle.ist_core.specs.declared.events.Who.TheVariants.{Caller as CallerOf}
use Rattle.ist_rule.specs.Learning.{now, GoesOnTo, Looked, Logged}
use Rattle.ist_rows.specs.declared.callers.Caller.{Caller}
use Rattle.ist_rows.specs.declared.kinds.Kind.{Kind}
use Rattle.ist_rows.specs.declared.kinds.Kind.TheVariants.{Leaf, Pair, Change, Rebuild}
use Rattle.ist_rows.specs.Kinds.{kind_words}
use Rattle.ist_rows.specs.Shortage.{RanShort}

-- the row of each kind that a caller has, by its base
pub record Spares : Type 0 where
  pub leaf : Option ℕ
  pub pair : Option ℕ
  pub change : Option ℕ
  pub rebuild : Option ℕ

-- the rows of a caller, by kind
abbrev pub spares_of : Caller → Spares
spares_of who =
    record { leaf = who.leaf; pair = who.pair; change = who.change; rebuild = who.rebuild }

-- no row of any kind
abbrev pub no_spares : Spares
no_spares = record { leaf = None; pair = None; change = None; rebuild = None }

-- the base of the row of this kind
abbrev pub row_of : Kind → Spares → Option ℕ
row_of Leaf spares = spares.leaf
row_of Pair spares = spares.pair
row_of Change spares = spares.change
row_of Rebuild spares = spares.rebuild

-- the rows with one of this kind
abbrev pub with_spare : Kind → ℕ → Spares → Spares
with_spare Leaf base spares = record spares { leaf = Some base }
with_spare Pair base spares = record spares { pair = Some base }
with_spare Change base spares = record spares { change = Some base }
with_spare Rebuild base spares = record spares { rebuild = Some base }

-- ---- rows that a caller holds

-- is this the base?
abbrev pub is_base : Option ℕ → ℕ → Bool
is_base (Some base) other = base == other
is_base None other = false

-- is the row at the base one of these?
abbrev pub is_spare : Spares → ℕ → Bool
is_spare spares base =
    is_base spares.leaf base || (is_base spares.pair base
    || (is_base spares.change base || is_base spares.rebuild base))

-- the rows that a caller holds, in the order of reserving
abbrev pub held_by : Snapshot → ℕ → List HeldRow
held_by t number = filter (λ h. h.caller == number) t.held

-- the sizes of the other rows that the caller holds, which belong to its builds
abbrev pub build_sizes : Snapshot → ℕ → Spares → List ℕ
build_sizes t number spares =
    map (λ h. h.size) (filter (λ h. not (is_spare spares h.base)) (held_by t number))

-- the token belongs to the caller with this number, each of its rows is held and of its kind, and
-- the sizes of all other rows that it holds are prefixes of building lists, each but the last being
-- stuck
pub record IsCaller (who : Caller) : Type 0 where
  pub mine : who.token.view.who ≡ CallerOf who.number
  pub rows : (kind : Kind) (base : ℕ) → row_of kind (spares_of who) ≡ Some base
      → HoldsRow (now who.token.view) who.number base (kind_words kind)
  pub builds : AreBuilds (now who.token.view)
      (build_sizes (now who.token.view) who.number (spares_of who))

-- it is said of a caller, which is at this table
abbrev pub IsAtTable : TableFace → (Caller → Type 0) → Caller → Type 0
IsAtTable table Is who = Is who × (who.token.view.table ≡ table.table)

-- ---- reserving

-- a row of the size was reserved at the last step of the call; before it the token only made loads
pub record Reserved (v : View) (number base size : ℕ) (w : View) : Type 0 where
  pub before : View
  pub seen : GoesOnTo v before
  pub reserved : Logged before (Reserve number base size) w

-- a load or a failed exchange gave the first free word; before it the token only made loads
pub record HasReadNext (v : View) (next : ℕ) (w : View) : Type 0 where
  pub before : View
  pub seen : GoesOnTo v before
  pub looked : Looked before next_place next w

-- too few words are left for a row of this size; nothing was reserved
abbrev pub IsFull : View → ℕ → ℕ → Full → View → Type 0
IsFull v words size full w = RanShort GoesOnTo (λ asked. asked ≡ size) v words full w

-- if the caller had no row of this kind and a row is returned, it was reserved in this call and is
-- the caller's
abbrev pub IsFreshRow : Kind → Caller → Caller → Result ℕ Full → Type 0
IsFreshRow kind old new answer =
    row_of kind (spares_of old) ≡ None → IfOk answer (λ base.
    Reserved old.token.view old.number base (kind_words kind) new.token.view
    × (spares_of new ≡ with_spare kind base (spares_of old)))

-- nothing was reserved, because no words are left
pub record IsKindRefused (words : ℕ) (kind : Kind) (old new : Caller) (full : Full) : Type 0 where
  pub none : row_of kind (spares_of old) ≡ None
  pub cause : IsFull old.token.view words (kind_words kind) full new.token.view
  pub same : spares_of new ≡ spares_of old

-- ---- filling

-- the caller holds the row at the base, and the row has a word `at` places after it
pub record HoldsPlace (who : Caller) (base at : ℕ) : Type 0 where
  pub size : ℕ
  pub held : HoldsRow (now who.token.view) who.number base size
  pub within : at < size
