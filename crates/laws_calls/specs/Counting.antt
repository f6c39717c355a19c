-- The law over lawful logs on where an update may be counted. `src/walks.rt` names it.
use Rattle.std.specs.Prelude.{List, Some, length, slice_get, ℕ, ◌+◌, ◌∷◌, ◌≡◌, ◌≢◌, ◌≤◌}
use Rattle.ist_core.specs.declared.events.Event.{Event}
use Rattle.ist_core.specs.declared.events.Event.TheVariants.{Count}
use Rattle.ist_core.specs.declared.pairs.Pair.{Pair}
use Rattle.ist_core.specs.declared.states.ChangeRow.{ChangeRow}
use Rattle.ist_core.specs.Authors.{GoesOnBy}
use Rattle.ist_core.specs.Changes.{changes_of}
use Rattle.ist_core.specs.Enabled.{Enabled}
use Rattle.ist_core.specs.Lawful.{Lawful, state_of}
use Rattle.ist_core.specs.Links.{WasOnChain}
use Rattle.ist_core.specs.Logs.{Counts, Log}
use Rattle.ist_core.specs.Pieces.{Change}
use Rattle.ist_core.specs.Rebuilding.{IsUpdate}
use Rattle.ist_core.specs.Standing.{entries_by}
use Rattle.ist_core.specs.StartLayout.{start}
use Rattle.ist_core.specs.Statuses.{decided_yes}
use Rattle.laws_calls.specs.Walking.{IsChainOf}

-- the row at the base is a put or remove of the caller that was decided yes after the earlier log,
-- and the caller has no other entry since
pub record IsOneUpdate (pairs : List Pair) (words : ℕ) (earlier log : Log)
    (caller base : ℕ) : Type 0 where
  pub change : ChangeRow
  pub published : (state_of pairs words log).pieces base ≡ Some (Change change)
  pub owned : change.owner ≡ caller
  pub update : IsUpdate change.kind
  pub decision : change.decision ≡ decided_yes
  pub since : (old : ChangeRow) → (state_of pairs words earlier).pieces base ≡ Some (Change old)
      → old.decision ≢ decided_yes
  pub alone : length (entries_by caller (changes_of pairs words log))
      ≤ length (entries_by caller (changes_of pairs words earlier)) + 1

-- ---- one row

-- the event is no Count of the caller at the node
abbrev pub CountsElsewhere : ℕ → ℕ → Event → Type 0
CountsElsewhere caller node event = ¬ (Counts caller node event)

-- such an update may be counted at each row of its node's chain at which nothing was counted since
abbrev pub UpdatesMayBeCounted : Type 0
UpdatesMayBeCounted =
    (pairs : List Pair) (words : ℕ) (earlier log : Log) → Lawful pairs words log
    → (caller base node : ℕ) (update : IsOneUpdate pairs words earlier log caller base)
    → WasOnChain (start pairs words) log update.change.node node
    → GoesOnBy (CountsElsewhere caller node) earlier log
    → Enabled (start pairs words) log (Count caller node)

-- ---- up the chain

-- if the event is a Count of the caller, its row is in the list at this index or later
abbrev pub CountsFrom : ℕ → List ℕ → ℕ → Event → Type 0
CountsFrom caller rows i event =
    (node : ℕ) → Counts caller node event → (j : ℕ) × (i ≤ j) × (slice_get rows j ≡ Some node)

-- if the rows are the chain of its node, and only rows later in the list than a row were counted
-- at, it may be counted at this row
abbrev pub CountsGoUp : Type 0
CountsGoUp =
    (pairs : List Pair) (words : ℕ) (earlier log : Log) → Lawful pairs words log
    → (caller base : ℕ) (update : IsOneUpdate pairs words earlier log caller base)
    → (rows : List ℕ) → IsChainOf pairs words log update.change.node rows
    → (i row : ℕ) → slice_get rows i ≡ Some row
    → GoesOnBy (CountsFrom caller rows (i + 1)) earlier log
    → Enabled (start pairs words) log (Count caller row)

-- after that Count only this row and later ones were counted at, so the next row above may follow
abbrev pub CountsAreFrom : Type 0
CountsAreFrom =
    (earlier log : Log) (caller i row : ℕ) (rows : List ℕ) → slice_get rows i ≡ Some row
    → GoesOnBy (CountsFrom caller rows (i + 1)) earlier log
    → GoesOnBy (CountsFrom caller rows i) earlier (Count caller row ∷ log)
