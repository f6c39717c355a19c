use Rattle.std.proofs.Common.{rules}
use Rattle.ist_updates.proofs.ChangedLemmas.{loads_changed, loads_room, loads_still, shut_changed}
use Rattle.ist_updates.proofs.PlanLemmas.{slot_node, slot_loads}
use Rattle.ist_updates.proofs.ResultLemmas.{not_true}
use Rattle.ist_updates.proofs.changing.change_slot.Goals as goal

-- the slot is a node's
pub is_open-requires-clause-node : goal.is_open-requires-clause-node
is_open-requires-clause-node c = slot_node _ c.args.aim c.requires.at_slot

-- which isn't open
pub returns-then-not-is_open : goal.returns-then-not-is_open
returns-then-not-is_open c = record {
  changed = shut_changed _ _ _ c.requires.asked.0 _ c.is_open.ensures.seen _
      (λ is. not_true _ c.if-not-is_open.true (c.is_open.ensures.open.1 is));
}

pub change_open-requires-clause-asked : goal.change_open-requires-clause-asked
change_open-requires-clause-asked c =
    (loads_still _ c.args.aim c.args.way c.requires.asked.0 _ c.is_open.ensures.seen, search rules)

pub change_open-requires-clause-at_slot : goal.change_open-requires-clause-at_slot
change_open-requires-clause-at_slot c =
    slot_loads _ c.args.aim c.requires.at_slot _ c.is_open.ensures.seen

pub change_open-requires-clause-room : goal.change_open-requires-clause-room
change_open-requires-clause-room c =
    loads_room _ c.args.aim c.args.way c.requires.asked.0 _ c.is_open.ensures.seen c.requires.room

pub change_open-requires-clause-unrefused : goal.change_open-requires-clause-unrefused
change_open-requires-clause-unrefused c =
    c.is_open.ensures.unrefused c.args.who.now.number c.if-not-is_open.false

pub returns : goal.returns
returns c = record {
  changed = loads_changed _ _ _ c.requires.asked.0 _ c.is_open.ensures.seen _ _ _ c.requires.room
      c.change_open.ensures.changed;
}
