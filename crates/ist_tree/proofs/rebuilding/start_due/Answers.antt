-- A start goes on for the row, and is refused as its rebuild is.
use Rattle.ist_rule.specs.RuleTerms.{word_count_of, now}
use Rattle.ist_tree.proofs.DueLemmas.{begins_for}
use Rattle.ist_rebuild.proofs.NeedLemmas.{lacks_now}
use Rattle.ist_tree.proofs.FreezeGoingLemmas.{err_both}
use Rattle.ist_tree.proofs.ShortLemmas.{start_refused}
use Rattle.ist_tree.proofs.rebuilding.start_due.Goals as goal

pub returns-clause-on : goal.returns-clause-on
returns-clause-on c =
    begins_for _ _ _ c.requires.ready.0 c.start.ensures.caller c.start.ensures.refused
    c.start.ensures.quiet c.start.ensures.went c.start.ensures.number c.start.ensures.aims

pub returns-clause-full : goal.returns-clause-full
returns-clause-full c = err_both _ _ _ c.start.result
    (λ full r lacks. start_refused (now c.args.who.now.token.view) c.args.who.now.token.view
    c.args.due (word_count_of c.args.table.now) full c.start.new.who.token.view r
    (lacks_now c.start.new.who c.start.ensures.went.sound c.start.ensures.caller
    (c.start.ensures.refused c.requires.ready.0.refused) full.asked lacks))
    c.start.ensures.full c.start.ensures.lacks
