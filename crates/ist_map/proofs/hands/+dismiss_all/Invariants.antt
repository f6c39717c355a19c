use Rattle.std.proofs.Common.{length}
use Rattle.ist_map.proofs.hands.+dismiss_all.Given as goal

-- proposed from what the function passes where it calls itself
abbrev pub decreases-dismiss_all : goal.decreases-dismiss_all
decreases-dismiss_all g l = length l.hands.now
