-- The topmost row that an update made due is rebuilt, if there is one.
use Rattle.std.proofs.Common.{subst}
use Rattle.ist_rebuild.specs.Starting.{MayStart}
use Rattle.ist_tree.specs.CallTerms.{Applies}
use Rattle.ist_tree.proofs.UpdateResultLemmas.{carried_none, carried_some}
use Rattle.ist_tree.proofs.InstallLemmas.{applied_starts, carried_starts}
use Rattle.ist_tree.proofs.ShortLemmas.{some_is}
use Rattle.ist_tree.proofs.updating.rebuild_topmost.Goals as goal

-- it made a row due
pub rebuild_due-requires-clause-may_start : goal.rebuild_due-requires-clause-may_start
rebuild_due-requires-clause-may_start c =
    some_is _ _ (λ d. MayStart c.args.who.now.token.view d.parent d.index d.target) c.in-Some.is
    c.requires.may_start

pub returns-in-Some-clause-carried : goal.returns-in-Some-clause-carried
returns-in-Some-clause-carried c old command reply asked a =
    let r = c.rebuild_due.ensures.rebuilt in
    carried_some old c.args.who.now c.rebuild_due.new.who _ _ _ _ asked.caller.mine asked.resolved
    (subst (Applies old c.args.who.now command reply) c.in-Some.is a) r.on.on c.rebuild_due.result
    c.err.result c.err.ensures.value r.shut r.done r.full

pub returns-in-Some-clause-starts : goal.returns-in-Some-clause-starts
returns-in-Some-clause-starts c old command reply asked a =
    let m = subst (Applies old c.args.who.now command reply) c.in-Some.is a in
    carried_starts old c.args.who.now c.rebuild_due.new.who c.in-Some.due asked.caller.mine m.caller
    m.number m.went m.due c.rebuild_due.ensures.rebuilt.on.aims

-- it made none
pub returns-in-None-clause-carried : goal.returns-in-None-clause-carried
returns-in-None-clause-carried c old command reply asked a =
    carried_none old c.args.who.now _ _ _ asked.caller.mine asked.resolved
    (subst (Applies old c.args.who.now command reply) c.in-None.is a)

pub returns-in-None-clause-starts : goal.returns-in-None-clause-starts
returns-in-None-clause-starts c old command reply asked a =
    applied_starts old c.args.who.now asked.caller.mine a.went
