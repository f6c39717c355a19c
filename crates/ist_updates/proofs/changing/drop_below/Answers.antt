use Rattle.ist_rule.proofs.EventLemmas.{goes_on_same}
use Rattle.ist_updates.specs.Changing.{Prepares}
use Rattle.ist_rows.proofs.GoneLemmas.{loads_gone}
use Rattle.ist_updates.proofs.PairLemmas.{pair_below, pair_above, dropped}
use Rattle.ist_updates.proofs.changing.drop_below.Goals as goal

-- the row lies below an inner row
pub drop_pair-requires-clause-below : goal.drop_pair-requires-clause-below
drop_pair-requires-clause-below c = let it = c.is_below.ensures.yes c.if-not-is_below.false in
    pair_below _ c.know.ensures.sound c.requires.caller.0 it.0 it.1 c.args.node c.requires.node it.2

-- with none nothing was done
pub returns-then-not-is_below-clause-gone : goal.returns-then-not-is_below-clause-gone
returns-then-not-is_below-clause-gone c =
    loads_gone Prepares c.args.who.now c.args.who.now.token c.requires.caller.0 c.requires.refused
    (goes_on_same _ c.know.ensures.sound)

pub returns-then-not-is_below-clause-above : goal.returns-then-not-is_below-clause-above
returns-then-not-is_below-clause-above c base is =
    pair_above _ c.know.ensures.sound c.requires.caller.0 base is c.args.node c.requires.node
    (c.is_below.ensures.no c.if-not-is_below.true base is)

-- else it was given up
pub returns-clause-gone : goal.returns-clause-gone
returns-clause-gone c = let it = c.is_below.ensures.yes c.if-not-is_below.false in
    dropped _ _ c.args.node it.0 c.requires.caller.0 c.requires.refused it.1
    c.drop_pair.ensures.lost c.drop_pair.ensures.caller.0 c.drop_pair.ensures.number
    c.drop_pair.ensures.rows
