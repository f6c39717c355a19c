-- Whether the word of an event is still the one that the event expects.
use Rattle.std.specs.Prelude.{Some, ◌≡◌}
use Rattle.ist_core.specs.declared.events.Event.{Event}
use Rattle.ist_core.specs.Shown.{IsShown}
use Rattle.ist_core.specs.Snapshots.{Snapshot}
use Rattle.ist_core.specs.Writing.{Touch, touch_of}

-- at the place that the event touches in the first state, the second state has the word that the
-- event expects there
pub record FindsItsWord (t u : Snapshot) (event : Event) : Type 0 where
  pub touch : Touch
  pub is : touch_of t event ≡ Some touch
  pub found : IsShown u touch.place touch.found
