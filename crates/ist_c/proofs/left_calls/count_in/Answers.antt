-- What is left is counted; by a handle of something else nothing is.
use Rattle.std.proofs.Common.{rules}
use Rattle.ist_c.specs.Listing.{counts_none}
use Rattle.ist_c.proofs.ReadLemmas.{counted_left}
use Rattle.ist_c.proofs.left_calls.count_in.Goals as goal

pub returns-in-Left : goal.returns-in-Left
returns-in-Left c = record {
  counts = counted_left c.args.held.now c.in-Left.left c.len.result c.args.stats.now c.in-Left.is
      (search rules);
}

pub returns-in_default : goal.returns-in_default
returns-in_default c = record { counts = counts_none c.args.held.now c.args.stats.now c.in_default.not-Left }
