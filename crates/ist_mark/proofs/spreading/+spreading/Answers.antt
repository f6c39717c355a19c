use borrow.Author.Gap.{counting}
use Rattle.std.proofs.Common.{rules}
use Rattle.ist_rule.proofs.ExchangeLemmas.{keeps_more}
use Rattle.ist_mark.proofs.SubtreeLemmas.{mark_same, mark_more, mark_lower, marked_more, table_on, may_mark_on, may_pass_on}
use Rattle.ist_mark.proofs.spreading.+spreading.Goals as goal

-- an open row below a slot lies above the node
pub mark_slot-mark_and_count_from-requires : goal.mark_slot-mark_and_count_from-requires
mark_slot-mark_and_count_from-requires t c = let below = c.in-Some.ensures.below in
    search (rules, counting, table_on, c.decreases, c.ranges.node.fits)

pub mark_slot-returns-in-Some : goal.mark_slot-returns-in-Some
mark_slot-returns-in-Some t c = let below = c.in-Some.ensures.below in search (rules, mark_lower)

-- on the way the node may be passed and marked still
pub mark_ahead-loop-k-init : goal.mark_ahead-loop-k-init
mark_ahead-loop-k-init t c = mark_same c.args.node _ c.know.ensures.sound

pub mark_ahead-mark_slot-requires : goal.mark_ahead-mark_slot-requires
mark_ahead-mark_slot-requires t c = let slots = c.in-Some.ensures.slots in
    search (rules, counting, table_on, may_pass_on, c.decreases)

pub mark_ahead-loop-k-preserved : goal.mark_ahead-loop-k-preserved
mark_ahead-loop-k-preserved t c = search (rules, mark_more)

pub mark_ahead-returns : goal.mark_ahead-returns
mark_ahead-returns t c = search (rules, mark_more)

pub mark_and_count_from-mark_ahead-requires : goal.mark_and_count_from-mark_ahead-requires
mark_and_count_from-mark_ahead-requires t c = search (rules, counting, c.decreases)

pub mark_and_count_from-mark_and_count-requires : goal.mark_and_count_from-mark_and_count-requires
mark_and_count_from-mark_and_count-requires t c = search (rules, table_on, may_mark_on)

pub mark_and_count_from-returns : goal.mark_and_count_from-returns
mark_and_count_from-returns t c = search (rules, marked_more, keeps_more)
