use Rattle.std.proofs.Common.{length, sym, ap, arith}
use Rattle.ist_core.specs.WordTerms.{in_anchor}
use Rattle.ist_core.specs.LogTerms.{shown_slot}
use Rattle.ist_rule.proofs.EventLemmas.{looked_goes_on}
use Rattle.ist_find.proofs.SpanLemmas.{node_row}
use Rattle.ist_find.proofs.SlotEndLemmas.{no_keys}
use Rattle.ist_find.proofs.sweeping.slot_word.Goals as goal

-- a walk begins at the anchor
pub load_top-requires-clause-may_walk : goal.load_top-requires-clause-may_walk
load_top-requires-clause-may_walk c = c.requires.top c.if-node-eq-ANCHOR.true

-- the anchor has one slot
pub returns-then-node-eq-ANCHOR-clause-seen : goal.returns-then-node-eq-ANCHOR-clause-seen
returns-then-node-eq-ANCHOR-clause-seen c = looked_goes_on _ _ _ _ c.load_top.ensures.looked

pub returns-then-node-eq-ANCHOR-clause-holds : goal.returns-then-node-eq-ANCHOR-clause-holds
returns-then-node-eq-ANCHOR-clause-holds c =
    let none = ap length (no_keys _ c.know.ensures.sound c.args.node c.if-node-eq-ANCHOR.true) in
    let count = c.requires.count in let within = c.requires.within in
    in_anchor c.if-node-eq-ANCHOR.true (omega arith) (sym (c.load_top.ensures.looked.stood _ shown_slot))

-- another node is a row
pub slot_of_row-requires-clause-row : goal.slot_of_row-requires-clause-row
slot_of_row-requires-clause-row c =
    (node_row c.args.token.now.view c.args.node c.if-node-eq-ANCHOR.false c.requires.node.0, c.requires.node.1)
