-- What is below the anchor is looked at until it is met.
use Rattle.std.proofs.Common.{rules, arith}
use Rattle.ist_tree.proofs.FreezeGoingLemmas.{idle_same}
use Rattle.ist_tree.proofs.SearchCountLemmas.{look_few, look_met, look_on, look_ready, look_smaller, look_stopped}
use Rattle.ist_tree.proofs.freezing.look_below.Goals as goal

-- before the first look nothing was done
pub turns-init : goal.turns-init
turns-init c = (idle_same _ c.know.ensures.sound c.requires.ready.0, omega arith)

pub look-requires-clause-ready : goal.look-requires-clause-ready
look-requires-clause-ready c =
    (look_ready c.args.who.now c.turns.invariant c.begin_search.ensures.begun, search rules)

pub returns-in_err-site-clause-full : goal.returns-in_err-site-clause-full
returns-in_err-site-clause-full c =
    look_stopped c.args.who.now c.turns.invariant c.begin_search.ensures.begun _ c.from_residual.ensures.1
    c.in_err-site.ensures.full

pub returns-in_err-site-clause-few_walks : goal.returns-in_err-site-clause-few_walks
returns-in_err-site-clause-few_walks c =
    look_few c.args.who.now c.turns.invariant c.begin_search.ensures.begun c.in_err-site.ensures.full.idle.on

-- the last look met it
pub returns-in-Some : goal.returns-in-Some
returns-in-Some c =
    let i = c.turns.invariant in let begun = c.begin_search.ensures.begun in let a = c.args.who.now in
    let met = rw c.in-Some.is at c.in_ok-site.ensures.met in
    record { met = look_met a i begun met; full = tt; few_walks = look_few a i begun met.on }

-- or nothing was met
pub turns-preserved : goal.turns-preserved
turns-preserved c = look_on c.args.who.now c.turns.invariant c.begin_search.ensures.begun
    (rw c.in_default.is at c.in_ok-site.ensures.met) (c.look.ensures.further (cc))

pub turns-smaller : goal.turns-smaller
turns-smaller c =
    look_smaller c.begin_search.ensures.begun (rw c.in_default.is at c.in_ok-site.ensures.met)
    (c.look.ensures.further (cc))
