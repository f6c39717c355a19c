use Rattle.std.proofs.Common.{length}
use Rattle.ist_tree.proofs.returning.+take_all_back.Given as goal

abbrev pub decreases-take_all_back : goal.decreases-take_all_back
decreases-take_all_back g l = length l.holders.items
