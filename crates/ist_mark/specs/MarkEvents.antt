-- The events that the exchanges of a status are.
use Rattle.std.specs.Prelude.{ℕ, ◌/◌}
use Rattle.ist_core.specs.declared.events.Event.{Event}
use Rattle.ist_core.specs.declared.events.Event.TheVariants.{Mark, Finish}
use Rattle.ist_rule.specs.declared.view.View.{View}
use Rattle.ist_rule.specs.Watching.{number_of}

-- the Mark event of an exchange of a status
abbrev pub marking : View → ℕ → Event
marking v node = Mark (number_of v.who) node

-- the Finish event of an exchange of a status for this word
abbrev pub finishing : View → ℕ → ℕ → Event
finishing v node word = Finish (number_of v.who) node (word / 4)
