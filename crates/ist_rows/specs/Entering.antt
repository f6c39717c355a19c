-- Entering: what the maker knows once it entered a caller and gave it its token.
use Rattle.std.specs.Prelude.{◌≡◌, ℕ, ◌+◌, ◌∷◌}
use Rattle.ist_core.specs.declared.events.Event.TheVariants.{Enter}
use Rattle.ist_core.specs.Logs.{Log}
use Rattle.ist_rule.specs.declared.view.View.{View}
use Rattle.ist_core.specs.Authors.{Later}

-- the view that entered the caller after this log, and has given it its token
abbrev pub entering : View → Log → ℕ → View
entering v before number =
    record v { log = Enter number ∷ before; made = v.made + 1; given = v.given + 1 }

-- the entering is the last event of the log, and only others made events before it; all else that
-- the maker knew is as it was
pub record HasEntered (v : View) (number : ℕ) (w : View) : Type 0 where
  pub before : Log
  pub later : Later v.who v.log before
  pub view : w ≡ entering v before number
