-- A range is swept in no call.
use Rattle.ist_tree.proofs.ShortLemmas.{SweepEnds, sweep_ends}
use Rattle.ist_tree.proofs.trees.Tree.sweep.Goals as goal
use Rattle.ist_tree.proofs.trees.Tree.sweep.Goals.{After-sweep}

-- what the sweep results in
ends : (c : After-sweep) → SweepEnds c.args.pass.now c.pass.inside.caller c.pass.inside.refused
    c.sweep.new.token c.args.first c.args.last c.args.found.now.items c.sweep.new.found.items
    c.sweep.result
ends c = sweep_ends c.pass.inside.caller c.pass.inside.refused _ c.sweep.new.token c.pass.invariant
    c.begin_read.ensures.begun c.sweep.ensures.seen
    c.args.first c.args.last c.args.found.now.items c.sweep.new.found.items c.sweep.result
    c.sweep.ensures.swept c.args.pass.now c.pass.view_is

pub invariant_of-pass : goal.invariant_of-pass
invariant_of-pass c = (ends c).pass

pub returns-clause-seen : goal.returns-clause-seen
returns-clause-seen c = (ends c).seen

pub returns-clause-swept : goal.returns-clause-swept
returns-clause-swept c = (ends c).swept

pub returns-clause-calls : goal.returns-clause-calls
returns-clause-calls c = (ends c).calls

pub returns-clause-stamp : goal.returns-clause-stamp
returns-clause-stamp c = (ends c).stamp

pub returns-clause-once : goal.returns-clause-once
returns-clause-once c = (ends c).once
