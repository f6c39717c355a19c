use Rattle.std.proofs.Common.{length}
use Rattle.check_events.proofs.rows.+holds_rows.Given as goal

abbrev pub decreases-holds_rows : goal.decreases-holds_rows
decreases-holds_rows l = length l.rows.now
