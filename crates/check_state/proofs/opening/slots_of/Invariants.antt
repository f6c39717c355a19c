use Rattle.std.proofs.Common.{◌≡◌}
use Rattle.ist_image.specs.Placing.{part_base}
use Rattle.check_state.proofs.LaidLemmas.{SlotsTo}
use Rattle.check_state.proofs.opening.slots_of.Given as goal

-- the words of the parts so far, and where the next one begins
abbrev pub invariant-loop-j : goal.invariant-loop-j
invariant-loop-j l = record {
  place : l.at ≡ part_base l.base l.count l.j;
  slots : SlotsTo l.base l.count l.j l.slots.items;
}
