use Rattle.std.proofs.Common.{rules}
use Rattle.ist_rule.proofs.EventLemmas.{looked_goes_on}
use Rattle.ist_mark.specs.Passing.{HasMarked}
use Rattle.ist_mark.proofs.FinishLemmas.{below_called, may_go_on}
use Rattle.ist_mark.proofs.SubtreeLemmas.{mark_more, mark_loads, table_on}
use Rattle.ist_mark.proofs.spreading.open_below.Goals as goal
use Rattle.ist_mark.proofs.spreading.open_below.Goals.{After-own_word-status}

-- what hangs below has a cause to be marked
pub own_word-status-requires-clause-may_mark : goal.own_word-status-requires-clause-may_mark
own_word-status-requires-clause-may_mark c =
    let it = below_called _ _ c.args.node c.args.degree c.args.index c.in-Node.child c.requires.may_pass.0
    c.pass_slot.ensures.marked.went c.in-Node.ensures.passed in
    search (rules, table_on)

-- only its status was loaded
loaded : (c : After-own_word-status)
    → HasMarked c.args.node c.pass_slot.new.token c.own_word-status.new.token
loaded c = mark_loads c.args.node _ _ (looked_goes_on _ _ _ _ c.own_word-status.ensures.looked)

pub returns-then-status-to_word : goal.returns-then-status-to_word
returns-then-status-to_word c =
    let on = loaded (goal.at.returns-then-status-to_word c).After-own_word-status in record {
      marked = mark_more c.args.node _ _ _ c.pass_slot.ensures.marked on;
      below = may_go_on _ _ _ c.args.node c.args.degree c.args.index c.in-Node.child
          c.requires.may_pass.0 c.pass_slot.ensures.marked.went c.in-Node.ensures.passed on.went;
    }

pub returns-else-status-to_word-clause-marked : goal.returns-else-status-to_word-clause-marked
returns-else-status-to_word-clause-marked c = mark_more c.args.node _ _ _ c.pass_slot.ensures.marked
    (loaded (goal.at.returns-else-status-to_word-clause-marked c).After-own_word-status)
