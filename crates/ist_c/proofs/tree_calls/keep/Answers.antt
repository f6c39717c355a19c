-- The handle keeps it, or there is no memory.
use Rattle.std.proofs.Common.{rules}
use Rattle.ist_c.specs.Keeping.{keeps_it, keeps_none}
use Rattle.ist_c.proofs.tree_calls.keep.Goals as goal

pub returns-in-Ok : goal.returns-in-Ok
returns-in-Ok c =
    record { keeps = keeps_it c.args.out.now c.of.result c.of.ensures.full (search rules) }

pub returns : goal.returns
returns c = record { keeps = keeps_none c.args.out.now }
