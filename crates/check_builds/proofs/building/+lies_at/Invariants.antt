use Rattle.std.proofs.Common.{length}
use Rattle.check_builds.proofs.building.+lies_at.Given as goal

abbrev pub decreases-lies_at : goal.decreases-lies_at
decreases-lies_at l = length l.rows.now
