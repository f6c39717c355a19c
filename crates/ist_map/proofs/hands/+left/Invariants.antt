use Rattle.std.proofs.Common.{length}
use Rattle.ist_map.proofs.hands.+left.Given as goal

-- proposed from what the function passes where it calls itself
abbrev pub decreases-left : goal.decreases-left
decreases-left g l = length l.hands.now
