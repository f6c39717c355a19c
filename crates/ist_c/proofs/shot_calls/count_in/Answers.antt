-- The pairs of a shot are counted; by a handle of something else nothing is.
use Rattle.ist_c.specs.Shots.{counts_no_shot}
use Rattle.ist_c.proofs.CallLemmas.{counted_shot}
use Rattle.ist_c.proofs.shot_calls.count_in.Goals as goal

pub returns-in-Shot : goal.returns-in-Shot
returns-in-Shot c = record {
  counts = counted_shot c.args.held.now c.in-Shot.shot c.keys.result c.args.keys.now c.in-Shot.is
      c.keys.ensures.value;
}

pub returns-in_default : goal.returns-in_default
returns-in_default c = record { counts = counts_no_shot c.args.held.now c.args.keys.now c.in_default.not-Shot }
