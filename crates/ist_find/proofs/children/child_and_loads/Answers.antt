use Rattle.std.proofs.Common.{rules}
use Rattle.ist_rule.proofs.EventLemmas.{goes_on_more}
use Rattle.ist_find.proofs.LoadLemmas.{row_on}
use Rattle.ist_find.proofs.SpanLemmas.{child_on}
use Rattle.ist_find.proofs.children.child_and_loads.Goals as goal

-- the row is published still
pub slot_of_row-word-requires-clause-row : goal.slot_of_row-word-requires-clause-row
slot_of_row-word-requires-clause-row c =
    (row_on _ _ c.place_in_row-place.ensures.seen c.args.node c.requires.row.0, search rules)

pub returns-clause-seen : goal.returns-clause-seen
returns-clause-seen c =
    goes_on_more _ _ _ c.place_in_row-place.ensures.seen c.slot_of_row-word.ensures.seen

-- with the same child for the key
pub returns-clause-index : goal.returns-clause-index
returns-clause-index c =
    child_on _ _ c.slot_of_row-word.ensures.seen c.args.node c.args.key c.place_in_row-place.result.value.index
    c.place_in_row-place.ensures.at.child
