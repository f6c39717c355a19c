-- A refusal of a put or a remove is a refusal of the pass.
use Rattle.std.proofs.Common.{sym, ◌∙◌}
use Rattle.ist_tree.proofs.PortLemmas.{answer_cause, answer_refused, put_no_get, remove_no_get}
use Rattle.ist_tree.proofs.ports.answer.Goals as goal

pub returns-in-Put-clause-full : goal.returns-in-Put-clause-full
returns-in-Put-clause-full c =
    answer_refused c.put.result c.args.pass.now c.put.new.pass _ _ c.args.command c.put.ensures.worked.seen
    (λ k e. put_no_get _ _ k (sym c.in-Put.is ∙ e)) c.in-Put.is c.put.ensures.turned_away

pub returns-in-Remove-clause-full : goal.returns-in-Remove-clause-full
returns-in-Remove-clause-full c =
    answer_refused c.remove.result c.args.pass.now c.remove.new.pass _ _ c.args.command
    c.remove.ensures.worked.seen (λ k e. remove_no_get _ k (sym c.in-Remove.is ∙ e)) c.in-Remove.is
    c.remove.ensures.turned_away

-- it is one of this very call
pub returns-in-Put-clause-cause : goal.returns-in-Put-clause-cause
returns-in-Put-clause-cause c =
    answer_cause c.put.result c.args.pass.now c.put.new.pass _ _ c.args.command c.in-Put.is
    c.put.ensures.turned_away

pub returns-in-Remove-clause-cause : goal.returns-in-Remove-clause-cause
returns-in-Remove-clause-cause c =
    answer_cause c.remove.result c.args.pass.now c.remove.new.pass _ _ c.args.command c.in-Remove.is
    c.remove.ensures.turned_away
