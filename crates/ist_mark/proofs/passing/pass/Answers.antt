use Rattle.std.proofs.Common.{rules}
use Rattle.ist_mark.specs.Marking.{Marks}
use Rattle.ist_dcss.specs.Helping.{Serves}
use Rattle.laws_coming.proofs.FurtherLemmas.{fewer_left, no_less, resolved_further}
use Rattle.ist_mark.proofs.SubtreeLemmas.{mark_same, mark_more, mark_help, table_on, may_pass_on}
use Rattle.ist_mark.proofs.passing.pass.Goals as goal

pub turns-init : goal.turns-init
turns-init c = mark_same c.args.node _ c.know.ensures.sound

pub look-word-requires-clause-may_pass : goal.look-word-requires-clause-may_pass
look-word-requires-clause-may_pass c = search (rules, table_on, may_pass_on)

-- the change that was met may be helped
pub help-requires-clause-may_help : goal.help-requires-clause-may_help
help-requires-clause-may_help c = (c.look-word.ensures.change _ c.in-Some.ensures.change).may_help

-- a turn helps a change
pub turns-preserved : goal.turns-preserved
turns-preserved c = let e = c.help.ensures in mark_help c.args.node _ _ _ _
    (mark_more c.args.node _ _ _ c.turns.invariant c.look-word.ensures.marked)
    (c.look-word.ensures.change _ c.in-Some.ensures.change) e.went e.search

pub returns-in-None-clause-marked : goal.returns-in-None-clause-marked
returns-in-None-clause-marked c =
    mark_more c.args.node _ _ _ c.turns.invariant c.look-word.ensures.marked

-- the change that was met is resolved by the turn, and wasn't before
pub turns-smaller : goal.turns-smaller
turns-smaller c = let word = c.look-word.ensures in
    let met = word.change _ c.in-Some.ensures.change in fewer_left _ _ c.help.ensures.went.sound
    (no_less (Marks c.look-word.new.token.view c.args.node) _ _ _ word.marked.went
    (resolved_further (Serves c.in-Some.change) _ _ c.help.ensures.went c.in-Some.change
    met.unresolved c.help.ensures.out.resolved))
