-- Rows of one build that are reserved together, at one step.
use Rattle.std.specs.Prelude.{ℕ, ◌+◌, ◌≤◌, List, [], ◌∷◌, ◌++◌}
use Rattle.std.specs.List.{sum}
use Rattle.ist_core.specs.declared.events.Event.{Event}
use Rattle.ist_core.specs.declared.events.Event.TheVariants.{Reserve}
use Rattle.ist_core.specs.declared.ports.Full.{Full}
use Rattle.ist_core.specs.RowLayout.{next_place}
use Rattle.ist_core.specs.Snapshots.{Snapshot, HoldsRow}
use Rattle.ist_core.specs.Logs.{Log}
use Rattle.ist_core.specs.Lawful.{state_of}
use Rattle.ist_rule.specs.declared.view.View.{View}
use Rattle.ist_rule.specs.Learning.{GoesOnTo}
use Rattle.ist_rule.specs.Conditions.{MayCome}
use Rattle.ist_rule.specs.Several.{LoggedAll, ComeAt}
use Rattle.ist_rows.specs.declared.callers.Caller.{Caller}
use Rattle.ist_rows.specs.Rows.{IsFull}
use Rattle.ist_rows.specs.Building.{IsInBuild}

-- the caller holds rows of these sizes, one after another in memory from the base on
abbrev pub HoldsBlock : Snapshot → ℕ → ℕ → List ℕ → Type 0
HoldsBlock t number base [] = Unit {0}
HoldsBlock t number base (size ∷ more) =
    HoldsRow t number base size × HoldsBlock t number (base + size) more

-- the reservings of rows of these sizes, one after another in memory from the base on
abbrev pub reservings : ℕ → ℕ → List ℕ → List Event
reservings number base [] = []
reservings number base (size ∷ more) =
    Reserve number base size ∷ reservings number (base + size) more

-- the next rows of the build that the caller is in have these sizes
pub record AreNext (who : Caller) (sizes : List ℕ) : Type 0 where
  pub stuck : List ℕ
  pub done : List ℕ
  pub rest : List ℕ
  pub at : IsInBuild who stuck done (sizes ++ rest)

-- rows of these sizes were reserved at the last step of the call, one after another in memory from the
-- base on; before it the token only made loads
pub record ReservedAll (v : View) (number base : ℕ) (sizes : List ℕ) (w : View) : Type 0 where
  pub before : View
  pub seen : GoesOnTo v before
  pub reserved : LoggedAll before (reservings number base sizes) w

-- a load or a failed exchange gave the first free word, and too few words are left for all; nothing
-- was reserved
abbrev pub HasNoRoom : View → ℕ → ℕ → View → Type 0
HasNoRoom v words asked w = (full : Full) × IsFull v words asked full w

-- after each log that may come rows of these sizes may be reserved at one step, if they fit
abbrev pub MayTakeAll : View → ℕ → List ℕ → Type 0
MayTakeAll v number sizes =
    (log : Log) → MayCome v log
    → (state_of v.start v.words log).next + sum sizes ≤ (state_of v.start v.words log).words
    → ComeAt v.start v.words log (reservings number (state_of v.start v.words log).next sizes)
    next_place (state_of v.start v.words log).next
    ((state_of v.start v.words log).next + sum sizes)
