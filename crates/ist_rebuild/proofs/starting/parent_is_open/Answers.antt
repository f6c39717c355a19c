use Rattle.ist_rebuild.proofs.StartReadyLemmas.{may_start_on, start_node}
use Rattle.ist_rebuild.proofs.StartReservedLemmas.{loads_reserved}
use Rattle.ist_rebuild.proofs.starting.parent_is_open.Goals as goal

-- the parent is a node
pub is_open-requires-clause-node : goal.is_open-requires-clause-node
is_open-requires-clause-node c =
    start_node _ c.know.ensures.sound c.args.parent c.args.index c.args.target c.requires.may_start

-- the caller only made a load
pub returns-clause-reserved : goal.returns-clause-reserved
returns-clause-reserved c =
    loads_reserved c.args.who.now c.is_open.new.token c.requires.caller.0 c.requires.quiet
    c.is_open.ensures.seen

pub returns-clause-may_start : goal.returns-clause-may_start
returns-clause-may_start c =
    may_start_on _ _ c.args.parent c.args.index c.args.target c.is_open.ensures.seen
    c.requires.may_start

pub returns-clause-open : goal.returns-clause-open
returns-clause-open c so = c.is_open.ensures.unrefused c.args.who.now.number so

pub returns-clause-closed : goal.returns-clause-closed
returns-clause-closed c is so = cc (is, c.is_open.ensures.open.1 so)
