-- Giving up a pair row: when a caller may, and what it leaves.
use Rattle.std.specs.Prelude.{◌≡◌, ℕ, ◌+◌, ◌<◌, [], ◌∷◌, Some}
use Rattle.ist_core.specs.declared.states.InnerRow.{InnerRow}
use Rattle.ist_core.specs.declared.events.Event.TheVariants.{Lose}
use Rattle.ist_core.specs.RowLayout.{inner_status_offset}
use Rattle.ist_core.specs.Pieces.{Inner}
use Rattle.ist_rule.specs.declared.view.View.{View}
use Rattle.ist_rule.specs.Learning.{now, LoggedLoad}
use Rattle.ist_rows.specs.declared.callers.Caller.{Caller}

-- the caller has a pair row, and it lies below this published inner row
pub record HasPairBelow (who : Caller) (node : ℕ) : Type 0 where
  pub pair : ℕ
  pub held : who.pair ≡ Some pair
  pub below : pair < node
  pub row : InnerRow
  pub published : (now who.token.view).pieces node ≡ Some (Inner row)

-- the pair row was lost by a load of the node's status, which is the last event of the log
abbrev pub HasLost : View → ℕ → ℕ → ℕ → View → Type 0
HasLost v number pair node w =
    (word : ℕ) × LoggedLoad v (Lose number (pair ∷ [])) (node + inner_status_offset) word w
