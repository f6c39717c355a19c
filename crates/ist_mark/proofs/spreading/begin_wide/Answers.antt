use Rattle.std.proofs.Common.{rules, arith}
use Rattle.ist_rule.proofs.EventLemmas.{looked_goes_on}
use Rattle.ist_mark.specs.Passing.{HasMarked}
use Rattle.ist_mark.proofs.PassLemmas.{degree_low}
use Rattle.ist_mark.proofs.SubtreeLemmas.{mark_more, mark_loads, table_on, may_mark_on}
use Rattle.ist_mark.proofs.spreading.begin_wide.Goals as goal
use Rattle.ist_mark.proofs.spreading.begin_wide.Goals.{After-own_word}

loaded : (c : After-own_word) → HasMarked c.args.node c.args.token.now c.own_word.new.token
loaded c = mark_loads c.args.node _ _ (looked_goes_on _ _ _ _ c.own_word.ensures.looked)

pub returns-then-own_word-lt-WIDE-clause-marked : goal.returns-then-own_word-lt-WIDE-clause-marked
returns-then-own_word-lt-WIDE-clause-marked c =
    loaded (goal.at.returns-then-own_word-lt-WIDE-clause-marked c).After-own_word

pub mark-requires : goal.mark-requires
mark-requires c =
    let on = loaded (goal.at.mark-requires c).After-own_word in search (rules, table_on, may_mark_on)

pub returns-then-is_some-clause-marked : goal.returns-then-is_some-clause-marked
returns-then-is_some-clause-marked c = mark_more c.args.node _ _ _
    (loaded (goal.at.returns-then-is_some-clause-marked c).After-own_word) c.mark.ensures.marked

pub returns-clause-marked : goal.returns-clause-marked
returns-clause-marked c =
    mark_more c.args.node _ _ _ (mark_more c.args.node _ _ _
    (loaded (goal.at.returns-clause-marked c).After-own_word) c.mark.ensures.marked)
    (mark_loads c.args.node _ _ c.degree_of-degree.ensures.seen)

pub returns-clause-few : goal.returns-clause-few
returns-clause-few c =
    let low = degree_low _ c.know.ensures.sound c.args.node _ c.degree_of-degree.ensures.degree in
    omega arith
