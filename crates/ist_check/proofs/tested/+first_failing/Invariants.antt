use Rattle.std.proofs.Common.{length}
use Rattle.ist_check.proofs.tested.+first_failing.Given as goal

abbrev pub decreases-first_failing : goal.decreases-first_failing
decreases-first_failing l = length l.tests.now
