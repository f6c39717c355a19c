use Rattle.std.proofs.Common.{◌*◌, ◌+◌, ◌-◌, ◌^◌, length}
use Rattle.check_builds.proofs.ideals.+built.Given as goal

abbrev pub decreases-built : goal.decreases-built
decreases-built l = length l.leaves.now * 2 ^ 66

abbrev pub decreases-parts_built : goal.decreases-parts_built
decreases-parts_built l = (l.n - 1) * 2 ^ 66 + 1 + length l.slots.now
