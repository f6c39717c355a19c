-- A freeze in a call of its own, which is given up.
use Rattle.std.proofs.Common.{rules}
use Rattle.ist_tree.proofs.FreezeResultLemmas.{begins_freeze, freeze_ended, freeze_may_stop, freeze_stopped}
use Rattle.ist_tree.proofs.trees.Tree.freeze.Goals as goal

-- the tree is frozen
pub give_up-requires-clause-may_give_up : goal.give_up-requires-clause-may_give_up
give_up-requires-clause-may_give_up c =
    let g = c.begin.ensures in let b = begins_freeze g.sound c.pass.invariant g.begun g.number g.ready in
    freeze_may_stop b _ c.in-Ok.ensures.froze.on

pub invariant_of-pass : goal.invariant_of-pass
invariant_of-pass c =
    let g = c.begin.ensures in let b = begins_freeze g.sound c.pass.invariant g.begun g.number g.ready in
    (freeze_ended b _ c.give_up.new.token c.give_up.ensures.given_up c.freeze_below.ensures.few_walks
    c.in-Ok.ensures.froze c.or-pass-inside.ensures c.pass.view_is c.requires.same_tree c.self.view_is).0.pass

pub returns-in-Ok : goal.returns-in-Ok
returns-in-Ok c =
    let g = c.begin.ensures in let b = begins_freeze g.sound c.pass.invariant g.begun g.number g.ready in
    let e = freeze_ended b _ c.give_up.new.token c.give_up.ensures.given_up c.freeze_below.ensures.few_walks
    c.in-Ok.ensures.froze c.or-pass-inside.ensures c.pass.view_is c.requires.same_tree c.self.view_is in search rules

-- the start of its rebuild is refused
pub give_up-requires-in-Err-clause-may_give_up : goal.give_up-requires-in-Err-clause-may_give_up
give_up-requires-in-Err-clause-may_give_up c =
    let g = c.begin.ensures in let b = begins_freeze g.sound c.pass.invariant g.begun g.number g.ready in
    freeze_may_stop b _ c.in-Err.ensures.full.idle.on

pub invariant_of-pass-in-Err : goal.invariant_of-pass-in-Err
invariant_of-pass-in-Err c =
    let g = c.begin.ensures in let b = begins_freeze g.sound c.pass.invariant g.begun g.number g.ready in
    (freeze_stopped b _ c.give_up-in-Err.new.token c.give_up-in-Err.ensures.given_up
    c.freeze_below.ensures.few_walks c.in-Err.ensures.full c.pass.view_is c.requires.same_tree c.self.view_is).0.pass

pub returns-in-Err : goal.returns-in-Err
returns-in-Err c =
    let g = c.begin.ensures in let b = begins_freeze g.sound c.pass.invariant g.begun g.number g.ready in
    let e = freeze_stopped b _ _ c.give_up-in-Err.ensures.given_up c.freeze_below.ensures.few_walks
    c.in-Err.ensures.full c.pass.view_is c.requires.same_tree c.self.view_is in search rules
