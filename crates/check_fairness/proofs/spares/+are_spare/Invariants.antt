use Rattle.std.proofs.Common.{length}
use Rattle.check_fairness.proofs.spares.+are_spare.Given as goal

abbrev pub decreases-are_spare : goal.decreases-are_spare
decreases-are_spare l = length l.sizes.now
