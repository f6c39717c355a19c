use Rattle.std.proofs.Common.{ap, ◌∙◌, arith}
use Rattle.ist_rule.specs.declared.view.View.{View}
use Rattle.ist_rule.proofs.EventLemmas.{goes_on_more}
use Rattle.ist_dcss.proofs.InstallLemmas.{filled, filled_on}
use Rattle.ist_dcss.proofs.CallingLemmas.{has_loaded, loaded_slot, aimed}
use Rattle.ist_dcss.proofs.installing.aim_of.Goals as goal

-- the row is filled
pub own_word-node-requires : goal.own_word-node-requires
own_word-node-requires g c = (c.requires.0, (filled _ c.args.change g.filling c.requires.1, omega arith))

-- the row is still filled
pub own_word-index-requires : goal.own_word-index-requires
own_word-index-requires g c = let seen = c.own_word-node.ensures.seen in
    let still = filled_on _ _ seen c.args.change _ (filled _ _ g.filling c.requires.1) in
    (ap (λ (v : View). v.table) seen.same ∙ c.requires.0, (still, omega arith))

pub own_word-from-requires : goal.own_word-from-requires
own_word-from-requires g c =
    let seen = goes_on_more _ _ _ c.own_word-node.ensures.seen c.own_word-index.ensures.seen in
    let still = filled_on _ _ seen c.args.change _ (filled _ _ g.filling c.requires.1) in
    (ap (λ (v : View). v.table) seen.same ∙ c.requires.0, (still, omega arith))

-- the slot is a slot of the node
pub slot_at-place-requires-clause-slot : goal.slot_at-place-requires-clause-slot
slot_at-place-requires-clause-slot g c =
    loaded_slot _ c.args.change g.filling c.requires.1 _ _ _ _ (has_loaded _ g.filling _ _ _ _ _ _
    c.own_word-node.ensures.seen c.own_word-node.ensures.value c.own_word-index.ensures.seen
    c.own_word-index.ensures.value c.own_word-from.ensures.seen c.own_word-from.ensures.value)

-- the place of the slot was found
pub returns : goal.returns
returns g c =
    let it = has_loaded _ g.filling _ _ _ _ _ _ c.own_word-node.ensures.seen c.own_word-node.ensures.value
    c.own_word-index.ensures.seen c.own_word-index.ensures.value c.own_word-from.ensures.seen
    c.own_word-from.ensures.value in
    record { aimed = aimed _ g.filling _ _ _ _ it _ c.slot_at-place.ensures.seen _ c.slot_at-place.ensures.place }
