use Rattle.std.proofs.Common.{ap, arith}
use Rattle.ist_rule.proofs.EventLemmas.{looked_goes_on}
use Rattle.ist_find.proofs.LoadLemmas.{knows_row, slot_told}
use Rattle.ist_find.proofs.children.slot_of_row.Goals as goal

-- the slots of a row lie within the table
pub overflow_add-count : goal.overflow_add-count
overflow_add-count c =
    let k = knows_row c.args.token.now.view c.know.ensures.sound c.args.node c.requires.row.0 in
    omega arith

pub slot_place-requires-clause-fits : goal.slot_place-requires-clause-fits
slot_place-requires-clause-fits c =
    let k = knows_row c.args.token.now.view c.know.ensures.sound c.args.node c.requires.row.0 in
    omega arith

pub load-requires-clause-within : goal.load-requires-clause-within
load-requires-clause-within c =
    let k = knows_row c.args.token.now.view c.know.ensures.sound c.args.node c.requires.row.0 in
    let same = ap (λ t. t.words) c.requires.row.1 in omega arith

pub load-requires-clause-no_walk : goal.load-requires-clause-no_walk
load-requires-clause-no_walk c at =
    let k = knows_row c.args.token.now.view c.know.ensures.sound c.args.node c.requires.row.0 in
    let above = k.above in let place = c.slot_place.ensures.value in absurd (omega arith)

-- one load was made, and it gives the word
pub returns-clause-seen : goal.returns-clause-seen
returns-clause-seen c = looked_goes_on _ _ _ _ c.load.ensures.looked

pub returns-clause-word : goal.returns-clause-word
returns-clause-word c = let count = c.requires.count in let at = c.slot_place.ensures.value in
    slot_told _ c.args.node c.requires.row.0 _ _ _ _ c.load.ensures.looked (omega arith) (omega arith)
