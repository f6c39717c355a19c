-- The handle holds what is left, or the closed tree.
use Rattle.ist_c.specs.Closing.{leaves_pairs, leaves_words}
use Rattle.ist_c.proofs.close_calls.leave.Goals as goal

pub returns-in-Ok : goal.returns-in-Ok
returns-in-Ok c =
    record { leaves = leaves_pairs c.args.closed.closed c.in-Ok.left c.in-Ok.ensures.left }

pub returns-in-Err : goal.returns-in-Err
returns-in-Err c = record { leaves = leaves_words c.args.closed }
