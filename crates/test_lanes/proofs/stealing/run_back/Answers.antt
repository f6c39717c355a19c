use Rattle.std.proofs.Common.{ap}
use Rattle.tele_steal.specs.Yards.{YardRoom}
use Rattle.test_lanes.proofs.stealing.run_back.Goals as goal

pub run_stolen-lanes-requires-clause-empty : goal.run_stolen-lanes-requires-clause-empty
run_stolen-lanes-requires-clause-empty g c = λ _ _. c.in_ok-lanes.ensures.empty

pub run_stolen-lanes-requires-clause-room : goal.run_stolen-lanes-requires-clause-room
run_stolen-lanes-requires-clause-room g c = λ _ _. c.in_ok-lanes.ensures.room

pub run_stolen-lanes-requires-clause-numbers : goal.run_stolen-lanes-requires-clause-numbers
run_stolen-lanes-requires-clause-numbers g c = λ _ _. c.in_ok-lanes.ensures.numbers

pub run_stolen-lanes-requires-clause-fits : goal.run_stolen-lanes-requires-clause-fits
run_stolen-lanes-requires-clause-fits g c = λ _ _. rw c.in_ok-lanes.ensures.len c.requires.fits

pub returns : goal.returns
returns g c = record { same_room = ap (λ (y : YardRoom). y.lanes) c.run_stolen-lanes.ensures.yard }
