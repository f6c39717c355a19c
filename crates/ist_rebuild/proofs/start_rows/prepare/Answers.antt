use Rattle.std.proofs.Common.{sym, subst}
use Rattle.ist_core.specs.TreeTerms.{IsUnrefused}
use Rattle.ist_rule.specs.RuleTerms.{now}
use Rattle.ist_rebuild.proofs.StartOwnLemmas.{unrefused_reserving}
use Rattle.ist_rebuild.proofs.StartReadyLemmas.{start_ready, target_good}
use Rattle.ist_rebuild.proofs.StartReservedLemmas.{filled_reserved}
use Rattle.ist_rebuild.proofs.start_rows.prepare.Goals as goal

-- the target is published, so it lies at a good base
pub fill_rows-requires-clause-target : goal.fill_rows-requires-clause-target
fill_rows-requires-clause-target c =
    target_good _ c.know.ensures.sound c.args.parent c.args.index c.args.target c.requires.may_start

pub returns-clause-reserved : goal.returns-clause-reserved
returns-clause-reserved c =
    filled_reserved c.args.who.now c.reserve_rows.new.who c.fill_rows.new.who
    c.in_ok-rows.rows.rebuild c.in_ok-rows.rows.change c.args.parent c.args.index c.args.target
    c.fill_rows.ensures.filled c.fill_rows.ensures.caller c.know-2.ensures.sound
    c.in_ok-rows.ensures.reserved

-- the rows are filled, and no change on the parent was decided no
pub returns-clause-ready : goal.returns-clause-ready
returns-clause-ready c = let r = c.in_ok-rows.ensures.reserved in
    start_ready c.args.who.now.token.view c.args.parent c.args.index c.args.target
    c.requires.may_start c.reserve_rows.new.who c.fill_rows.new.who c.in_ok-rows.rows.rebuild
    c.in_ok-rows.rows.change c.in_ok-rows.ensures.rows r.caller r.went r.quiet
    (subst (λ n. IsUnrefused (now c.reserve_rows.new.who.token.view) n c.args.parent) (sym r.number)
    (unrefused_reserving _ _ r.went c.args.who.now.number c.args.parent c.requires.caller.0.mine
    c.requires.quiet.resolved c.requires.unrefused))
    c.fill_rows.ensures.filled c.fill_rows.ensures.caller c.know.ensures.sound
