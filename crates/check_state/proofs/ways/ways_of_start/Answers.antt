use Rattle.std.proofs.Common.{[]}
use Rattle.check_state.proofs.WayTableLemmas.{no_ways}
use Rattle.check_state.proofs.ways.ways_of_start.Goals as goal

pub returns : goal.returns
returns c = record {
  exact = λ pairs words opens mirrors k.
      c.in_ok-add_ways.ensures.exact pairs words [] record { opens = opens; enabled = tt } mirrors k
      (no_ways _ [] c.new-ways.result c.new-ways.ensures.empty);
}
