-- Which changes a log decided yes. Their number bounds each row's count.
use Rattle.std.specs.Prelude.{ℕ, true, List, [], ◌∷◌}
use Rattle.ist_core.specs.declared.events.Event.TheVariants.{Decide}
use Rattle.ist_core.specs.Logs.{Log}

-- the bases of the changes that were decided yes, the newest first
abbrev pub decided_yes_in : Log → List ℕ
decided_yes_in [] = []
decided_yes_in (Decide caller base true ∷ log) = base ∷ decided_yes_in log
decided_yes_in (_ ∷ log) = decided_yes_in log
