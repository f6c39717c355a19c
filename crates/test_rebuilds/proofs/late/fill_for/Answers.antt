use Rattle.std.proofs.Common.{rules}
use Rattle.ist_rule.proofs.WentOnLemmas.{goes_on_grow}
use Rattle.laws_links.proofs.FormLemmas.{room_grows}
use Rattle.ist_updates.specs.Changing.{Prepares}
use Rattle.ist_rows.proofs.GoneLemmas.{loads_gone}
use Rattle.ist_updates.proofs.PlanLemmas.{slot_loads, slot_node}
use Rattle.test_rebuilds.proofs.LateLemmas.{put_filled}
use Rattle.test_rebuilds.proofs.late.fill_for.Goals as goal

-- the slot is a node's
pub is_open-requires-clause-node : goal.is_open-requires-clause-node
is_open-requires-clause-node c = slot_node _ _ c.requires.at_slot

pub plan-requires-clause-caller : goal.plan-requires-clause-caller
plan-requires-clause-caller c =
    let gone = loads_gone Prepares c.args.who.now c.is_open.new.token c.requires.asked.0.caller
    c.requires.asked.0.refused c.is_open.ensures.seen in (gone.caller, search rules)

pub plan-requires-clause-refused : goal.plan-requires-clause-refused
plan-requires-clause-refused c =
    (loads_gone Prepares c.args.who.now c.is_open.new.token c.requires.asked.0.caller
    c.requires.asked.0.refused c.is_open.ensures.seen).refused

-- which was open, so that the change may be installed
pub returns : goal.returns
returns c = record {
  filled = (
    record {
      caller = c.fill_both.ensures.caller;
      installable = put_filled c.args.who.now (record c.args.who.now { token = c.is_open.new.token })
          c.plan.new.who c.fill_both.new.who _ _ _ _ _ c.in-Ok.put.change c.in-Ok.put.leaf
          c.in-Ok.put.row c.requires.asked.0
          (loads_gone Prepares c.args.who.now c.is_open.new.token c.requires.asked.0.caller
          c.requires.asked.0.refused c.is_open.ensures.seen)
          (slot_loads _ _ c.requires.at_slot _ c.is_open.ensures.seen)
          (room_grows _ _ (goes_on_grow _ _ c.is_open.ensures.seen) c.args.key c.args.slot.word c.requires.room)
          (c.is_open.ensures.unrefused c.args.who.now.number c.if-not-is_open.false)
          c.in-Ok.ensures.gone c.in-Ok.ensures.rows c.in-Ok.ensures.good c.in-Ok.ensures.row
          c.fill_both.ensures.caller c.know.ensures.sound c.fill_both.ensures.same c.fill_both.ensures.stored;
    },
    search rules,
  );
}
