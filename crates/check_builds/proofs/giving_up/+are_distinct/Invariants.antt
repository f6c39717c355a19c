use Rattle.std.proofs.Common.{length}
use Rattle.check_builds.proofs.giving_up.+are_distinct.Given as goal

abbrev pub decreases-are_distinct : goal.decreases-are_distinct
decreases-are_distinct l = length l.bases.now
