use Rattle.std.proofs.Common.{length}
use Rattle.ist_map.proofs.hands.+hire_all.Given as goal

-- proposed from what the function passes where it calls itself
abbrev pub decreases-hire_all : goal.decreases-hire_all
decreases-hire_all g l = length l.hands.now
