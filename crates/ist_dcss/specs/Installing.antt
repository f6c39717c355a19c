-- Installing a change: when a caller may, and what comes of it.
use Rattle.std.specs.Prelude.{◌≡◌, ◌≢◌, ℕ, List, ◌∷◌}
use Rattle.ist_core.specs.declared.states.ChangeRow.{ChangeRow}
use Rattle.ist_core.specs.declared.lists.HeldRow.{HeldRow}
use Rattle.ist_core.specs.declared.lists.Row.{Row}
use Rattle.ist_core.specs.declared.events.Event.TheVariants.{Install}
use Rattle.ist_core.specs.References.{ChangeAt, word_of}
use Rattle.ist_core.specs.Statuses.{undecided}
use Rattle.ist_core.specs.Elements.{Among}
use Rattle.ist_core.specs.Pieces.{Change, row_at}
use Rattle.ist_core.specs.Snapshots.{HoldsRows, bases_of}
use Rattle.ist_core.specs.StartLayout.{start}
use Rattle.ist_core.specs.Slots.{SlotHolds}
use Rattle.ist_core.specs.Links.{WasLinked}
use Rattle.ist_core.specs.Installing.{FitsKind, IsUnrefused}
use Rattle.ist_rule.specs.declared.view.View.{View}
use Rattle.ist_core.specs.declared.events.Who.TheVariants.{Caller}
use Rattle.ist_rule.specs.Learning.{now, GoesOnTo, Logged}
use Rattle.ist_rule.specs.Conditions.{StoredAll, MayInstall}

-- a change as its row is filled, and the fresh rows that are installed with it
pub record Filling : Type 0 where
  pub change : ChangeRow
  pub fresh : List Row

-- the rows of a change at this base, as its Install names them
abbrev pub rows_of : Filling → ℕ → List Row
rows_of f base = row_at base (Change f.change) ∷ f.fresh

-- a caller may try to install the change: it holds and has filled its rows, the node was linked and
-- has the slot, no earlier change of the caller on the node was decided no, the change fits its
-- kind, and the caller's call allows it
pub record IsInstallable (v : View) (base : ℕ) (f : Filling) : Type 0 where
  pub number : ℕ
  pub mine : v.who ≡ Caller number
  pub held : HoldsRows (now v) number (rows_of f base)
  pub stored : StoredAll v (rows_of f base)
  pub owned : f.change.owner ≡ number
  pub unset : f.change.decision ≡ undecided
  pub word : ℕ
  pub slot : SlotHolds (now v) f.change.node f.change.index word
  pub linked : WasLinked (start v.start v.words) v.log f.change.node
  pub unrefused : IsUnrefused (now v) number f.change.node
  pub fits : FitsKind (start v.start v.words) v.log f.change f.fresh
  pub allowed : MayInstall v number f.change

-- the change is installed: the Install is the last event, and before it the caller only made loads;
-- the change is in its slot, and none of its rows is held any more
pub record IsInstalled (v : View) (base : ℕ) (f : Filling) (w : View) : Type 0 where
  pub before : View
  pub seen : GoesOnTo v before
  pub number : ℕ
  pub mine : v.who ≡ Caller number
  pub logged : Logged before (Install number base (rows_of f base)) w
  pub in_slot : SlotHolds (now w) f.change.node f.change.index (word_of (ChangeAt base))
  pub unheld : (h : HeldRow) → Among h (now w).held → ¬ (Among h.base (bases_of (rows_of f base)))

-- the slot held this other word at a load; the caller only made loads, and still holds the rows
pub record IsOther (v : View) (base : ℕ) (f : Filling) (word : ℕ) (w : View) : Type 0 where
  pub seen : GoesOnTo v w
  pub in_slot : SlotHolds (now w) f.change.node f.change.index word
  pub differs : word ≢ f.change.from
  pub number : ℕ
  pub mine : v.who ≡ Caller number
  pub held : HoldsRows (now w) number (rows_of f base)
