use Rattle.std.proofs.Common.{◌∙◌, rules}
use Rattle.ist_mark.specs.Passing.{HasMarked}
use Rattle.ist_mark.proofs.MarkLemmas.{finished_closed}
use Rattle.ist_mark.proofs.SubtreeLemmas.{mark_more, mark_loads, table_on, may_mark_on}
use Rattle.ist_mark.proofs.statuses.mark.Goals as goal
use Rattle.ist_mark.proofs.statuses.mark.Goals.{After-finished_keys}

-- the load leaves the cause as it was
loaded : (c : After-finished_keys) → HasMarked c.args.node c.args.token.now c.finished_keys.new.token
loaded c = mark_loads c.args.node _ _ c.finished_keys.ensures.seen

pub mark_open-requires : goal.mark_open-requires
mark_open-requires c =
    let on = loaded (goal.at.mark_open-requires c).After-finished_keys in search (rules, table_on, may_mark_on)

-- a finished node isn't open
pub returns-in-Some : goal.returns-in-Some
returns-in-Some c = let on = loaded (goal.at.returns-in-Some c).After-finished_keys in
    let told = c.finished_keys.ensures.finished in record {
      marked = on;
      may_mark = may_mark_on c.args.node _ _ on c.requires.may_mark.0;
      closed = finished_closed _ c.args.node c.in-Some.keys (told c.in-Some.keys c.in-Some.is);
      finished = λ k is. told k (c.in-Some.is ∙ is);
    }

pub returns-in-None : goal.returns-in-None
returns-in-None c = let e = c.mark_open.ensures in
    let on = mark_more c.args.node _ _ _ (loaded (goal.at.returns-in-None c).After-finished_keys)
    e.marked in
    record {
      marked = on;
      may_mark = may_mark_on c.args.node _ _ on c.requires.may_mark.0;
      closed = e.closed;
      finished = e.finished;
    }
