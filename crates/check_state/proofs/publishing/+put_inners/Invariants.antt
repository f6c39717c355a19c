use Rattle.std.proofs.Common.{length}
use Rattle.check_state.proofs.publishing.+put_inners.Given as goal

abbrev pub decreases-put_inners : goal.decreases-put_inners
decreases-put_inners l = length l.rows.now
