-- Which event decides a change. Serves what is proved of the last change that was decided yes.
use Rattle.std.proofs.Common.{◌≡◌, ℕ, Bool}
use Rattle.ist_core.specs.declared.events.Event.{Event}
use Rattle.ist_core.specs.declared.events.Event.TheVariants.{Decide}

-- the event decides the change this way
abbrev pub Decides : ℕ → Bool → Event → Type 0
Decides change said (Decide c d x) = (d ≡ change) × (x ≡ said)
Decides change said _ = ⊥
