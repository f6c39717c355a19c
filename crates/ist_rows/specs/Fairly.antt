-- When a caller may take a row, whatever others do meanwhile.
use Rattle.std.specs.Prelude.{ℕ, ◌-◌, [], ◌∷◌, ◌++◌}
use Rattle.ist_core.specs.Snapshots.{sizes_held}
use Rattle.ist_core.specs.Fairness.{IsFair}
use Rattle.ist_core.specs.Logs.{Log}
use Rattle.ist_core.specs.Lawful.{state_of}
use Rattle.ist_core.specs.declared.events.Event.{Event}
use Rattle.ist_core.specs.declared.events.Event.TheVariants.{Reserve}
use Rattle.ist_rule.specs.declared.view.View.{View}
use Rattle.ist_rule.specs.Conditions.{MayCome}
use Rattle.ist_rule.specs.Watching.{number_of}

-- after each log that may come, what the caller holds is fair with a row of this size
abbrev pub MayTake : View → ℕ → ℕ → Type 0
MayTake v number size =
    (log : Log) → MayCome v log
    → IsFair (state_of v.start v.words log)
    (sizes_held (state_of v.start v.words log) number ++ size ∷ [])

-- ---- naming the event of an exchange

-- the reserving that an exchange of the first word is
abbrev pub reserving : View → ℕ → ℕ → Event
reserving v old new = Reserve (number_of v.who) old (new - old)
