use borrow.Author.Gap.{counting}
use Rattle.std.proofs.Common.{arith, rules}
use Rattle.ist_rule.proofs.ExchangeLemmas.{keeps_more}
use Rattle.ist_mark.specs.Passing.{no_slot_yet}
use Rattle.ist_mark.proofs.FinishLemmas.{below_called, below_under, row_counted, slot_counted, sum_low, all_counted}
use Rattle.ist_mark.proofs.SubtreeLemmas.{mark_same, mark_more, mark_lower, mark_loads, marked_more, table_on, may_pass_on}
use Rattle.ist_mark.proofs.counting.+marking.Goals as goal

-- what hangs below lies above, and has a cause to be marked
pub count_slot-mark_and_count-requires : goal.count_slot-mark_and_count-requires
count_slot-mark_and_count-requires t c =
    let it = below_called _ _ _ _ _ _ c.requires.may_pass.0 c.pass_slot.ensures.marked.went c.in-Node.ensures.passed in
    search (rules, counting, table_on, c.decreases, c.ranges.node.fits)

pub count_slot-returns-in-Node : goal.count_slot-returns-in-Node
count_slot-returns-in-Node t c = let passed = c.in-Node.ensures.passed in
    search (rules, mark_lower, below_under, row_counted)

pub mark_and_count-loop-index-init : goal.mark_and_count-loop-index-init
mark_and_count-loop-index-init t c = (mark_same c.args.node _ c.know.ensures.sound, no_slot_yet)

pub mark_and_count-count_slot-keys-requires : goal.mark_and_count-count_slot-keys-requires
mark_and_count-count_slot-keys-requires t c = search (rules, counting, table_on, mark_loads, may_pass_on, c.decreases)

pub mark_and_count-loop-index-preserved : goal.mark_and_count-loop-index-preserved
mark_and_count-loop-index-preserved t c = search (rules, mark_more, slot_counted)

pub mark_and_count-overflow_add-keys : goal.mark_and_count-overflow_add-keys
mark_and_count-overflow_add-keys t c = record { fits = search (rules, sum_low) }

pub mark_and_count-finish-requires : goal.mark_and_count-finish-requires
mark_and_count-finish-requires t c =
    let it = all_counted _ _ _ _ _ _ c.degree_of-degree.ensures.degree c.loop-index.invariant.1
    (omega (arith, c.loop-index.auto.index-end, c.loop-index-test.false)) c.loop-index.invariant.0.went in search rules

pub mark_and_count-returns : goal.mark_and_count-returns
mark_and_count-returns t c =
    let loads = mark_loads c.args.node _ c.degree_of-degree.new.token c.degree_of-degree.ensures.seen in
    search (rules, marked_more, keeps_more)
