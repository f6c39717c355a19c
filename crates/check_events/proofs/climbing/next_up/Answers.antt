use Rattle.std.proofs.Common.{◌≢◌, sym, arith}
use Rattle.check_events.proofs.DecisionLemmas.{comes_on, comes_none, jump_leads}
use Rattle.check_events.proofs.climbing.next_up.Goals as goal

pub returns-in-None-clause-exact : goal.returns-in-None-clause-exact
returns-in-None-clause-exact c first log k w less =
    comes_none c.args.past.now.slots c.args.row c.args.node (sym c.in-None.ensures.value)

pub returns-then-jump-node-clause-exact : goal.returns-then-jump-node-clause-exact
returns-then-jump-node-clause-exact c first log k w less =
    jump_leads first log c.args.past.now.slots k c.args.row c.args.node c.jump_of-jump.result
    (c.jump_of-jump.ensures.exact first log w) c.if-row-jump.true

pub returns-else-slot-node-clause-exact : goal.returns-else-slot-node-clause-exact
returns-else-slot-node-clause-exact c first log k w less =
    let far : c.args.node ≢ c.args.row = omega arith in
    comes_on c.args.past.now.slots c.args.node c.in-Some.slot.now (sym c.in-Some.ensures.value)
    c.args.row far
