use Rattle.std.proofs.Common.{◌-◌, length}
use Rattle.ist_rest.proofs.SettleLemmas.{AreSettledTo}
use Rattle.ist_rest.proofs.settling.+are_settled_from.Given as goal

abbrev pub decreases-are_settled_from : goal.decreases-are_settled_from
decreases-are_settled_from g l = length (g.W.WordList.list l.words.now) - l.base

-- what is reached by the slots so far is settled
abbrev pub invariant-loop-i : goal.invariant-loop-i
invariant-loop-i g l = AreSettledTo (g.W.WordList.list l.words) l.base l.i
