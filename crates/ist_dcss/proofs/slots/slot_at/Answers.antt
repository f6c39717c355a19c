use Rattle.std.proofs.Common.{◌∙◌, sym, ap, arith}
use Rattle.ist_rule.proofs.EventLemmas.{goes_on_same, looked_goes_on}
use Rattle.ist_dcss.proofs.FieldLemmas.{HasPlace, has_place, tells_slot}
use Rattle.ist_dcss.proofs.slots.slot_at.Goals as goal
use Rattle.ist_dcss.proofs.slots.slot_at.Goals.{Else-node-from}

-- nothing was loaded
pub returns-then-node-from : goal.returns-then-node-from
returns-then-node-from c =
    record { seen = goes_on_same _ c.know.ensures.sound; place = rw (c.if-node-from.true ∙ c.from.ensures) }

-- the node lies within the table, which is small
here : (c : Else-node-from) → HasPlace c.args.token.now.view c.args.node c.args.index
here c = has_place _ c.know.ensures.sound _ _ c.requires.slot (λ e. c.if-node-from.false (e ∙ sym c.from.ensures))

pub overflow_add-node : goal.overflow_add-node
overflow_add-node c = record { fits = omega (arith, here (goal.at.overflow_add-node c).Else-node-from) }

pub load-degree-requires : goal.load-degree-requires
load-degree-requires c = let k = here (goal.at.load-degree-requires c).Else-node-from in
    let same = ap (λ t. t.words) c.requires.same_table in
    record { same_table = c.requires.same_table; within = omega arith; no_walk = omega arith }

pub overflow_cast-node : goal.overflow_cast-node
overflow_cast-node c = record { fits = omega (arith, here (goal.at.overflow_cast-node c).Else-node-from) }

-- the index is below the degree
pub slot_place-requires : goal.slot_place-requires
slot_place-requires c = let k = here (goal.at.slot_place-requires c).Else-node-from in
    let t = tells_slot _ _ _ k _ _ c.load-degree.ensures.looked in
    record { within = t.index_low; fits = t.degree_low }

-- one load was made, and the slot lies at that place
pub returns : goal.returns
returns c =
    let t = tells_slot _ _ _ (here (goal.at.returns c).Else-node-from) _ _ c.load-degree.ensures.looked in
    let seen = looked_goes_on _ _ _ _ c.load-degree.ensures.looked in
    record { seen = seen; place = c.slot_place.ensures.value ∙ t.place }
