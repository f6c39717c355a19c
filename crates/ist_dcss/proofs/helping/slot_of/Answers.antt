use Rattle.ist_rule.proofs.WentOnLemmas.{went_more, goes_on_went}
use Rattle.ist_rule.proofs.ExchangeLemmas.{keeps_more, goes_on_keeps}
use Rattle.ist_dcss.specs.Helping.{Serves}
use Rattle.ist_dcss.proofs.FieldLemmas.{names_slot, place_of_change}
use Rattle.ist_dcss.proofs.helping.slot_of.Goals as goal

-- the change has that slot
pub slot_at-requires-clause-slot : goal.slot_at-requires-clause-slot
slot_at-requires-clause-slot c =
    (names_slot _ c.args.change _ c.field-node.ensures.field _ c.field-index.ensures.went _
    c.field-index.ensures.field).slot

-- loads were made
pub returns-clause-went : goal.returns-clause-went
returns-clause-went c = went_more (Serves c.args.change) _ _ _
    (went_more (Serves c.args.change) _ _ _ c.field-node.ensures.went c.field-index.ensures.went)
    (goes_on_went (Serves c.args.change) _ _ c.slot_at.ensures.seen)

pub returns-clause-search : goal.returns-clause-search
returns-clause-search c = keeps_more _ _ _
    (keeps_more _ _ _ c.field-node.ensures.search c.field-index.ensures.search)
    (goes_on_keeps _ _ c.slot_at.ensures.seen)

-- the slot lies at that place
pub returns-clause-slot : goal.returns-clause-slot
returns-clause-slot c = place_of_change _ c.args.change _ _
    (names_slot _ c.args.change _ c.field-node.ensures.field _ c.field-index.ensures.went _
    c.field-index.ensures.field)
    _ c.slot_at.ensures.seen _ c.slot_at.ensures.place
