use Rattle.std.proofs.Common.{length}
use Rattle.check_builds.proofs.roots.+are_unset.Given as goal

abbrev pub decreases-are_unset : goal.decreases-are_unset
decreases-are_unset l = length l.slots.now
