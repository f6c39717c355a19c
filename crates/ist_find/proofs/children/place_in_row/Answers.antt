use Rattle.std.proofs.Common.{arith, rules}
use Rattle.ist_rule.proofs.EventLemmas.{goes_on_more}
use Rattle.ist_find.proofs.LoadLemmas.{row_on, count_on, distance_on}
use Rattle.ist_find.proofs.PlaceLemmas.{row_at}
use Rattle.ist_find.proofs.children.place_in_row.Goals as goal

-- the row is published still, with the same keys
pub child_for-index-requires-clause-row : goal.child_for-index-requires-clause-row
child_for-index-requires-clause-row c =
    (row_on _ _ c.key_count-count.ensures.seen c.args.node c.requires.row.0, search rules)

pub child_for-index-requires-clause-count : goal.child_for-index-requires-clause-count
child_for-index-requires-clause-count c =
    count_on _ _ c.key_count-count.ensures.seen c.args.node c.requires.row.0 _ c.key_count-count.ensures.value

pub returns-clause-seen : goal.returns-clause-seen
returns-clause-seen c = goes_on_more _ _ _ c.key_count-count.ensures.seen c.child_for-index.ensures.finds.seen

-- the child is the number of keys that are at most the key
pub returns-clause-at : goal.returns-clause-at
returns-clause-at c =
    row_at _ _ _ c.key_count-count.ensures.seen c.child_for-index.ensures.finds.seen c.args.node c.args.key _ _
    c.requires.row.0 c.key_count-count.ensures.value c.child_for-index.ensures.finds.value

-- and few loads were made
pub returns-clause-loads : goal.returns-clause-loads
returns-clause-loads c =
    let same = distance_on _ _ c.key_count-count.ensures.seen c.args.node c.requires.row.0 c.args.key
    c.child_for-index.result.value in
    let more = c.child_for-index.ensures.finds.few in omega arith

pub returns-clause-loads_far : goal.returns-clause-loads_far
returns-clause-loads_far c k less =
    let same = distance_on _ _ c.key_count-count.ensures.seen c.args.node c.requires.row.0 c.args.key
    c.child_for-index.result.value in
    let more = c.child_for-index.ensures.finds.far k (omega arith) in omega arith
