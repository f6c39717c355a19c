use Rattle.std.proofs.Common.{◌-◌, ◌^◌}
use Rattle.ist_updates.proofs.walking.+descend.Given as goal

-- bases rise on the way down
abbrev pub decreases-descend : goal.decreases-descend
decreases-descend l = 2 ^ 32 - l.node
