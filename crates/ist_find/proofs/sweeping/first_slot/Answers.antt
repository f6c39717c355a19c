use Rattle.ist_rule.proofs.EventLemmas.{goes_on_same}
use Rattle.std.proofs.Common.{arith}
use Rattle.ist_find.proofs.PlaceLemmas.{anchor_at, few_to_start}
use Rattle.ist_find.proofs.SpanLemmas.{node_row}
use Rattle.ist_find.proofs.sweeping.first_slot.Goals as goal

-- the anchor has no keys
pub returns-then-node-eq-ANCHOR-clause-seen : goal.returns-then-node-eq-ANCHOR-clause-seen
returns-then-node-eq-ANCHOR-clause-seen c = goes_on_same _ c.know.ensures.sound

pub returns-then-node-eq-ANCHOR-clause-at : goal.returns-then-node-eq-ANCHOR-clause-at
returns-then-node-eq-ANCHOR-clause-at c =
    anchor_at _ c.know.ensures.sound c.args.node c.args.key c.if-node-eq-ANCHOR.true

-- another node is a row
pub place_in_row-requires : goal.place_in_row-requires
place_in_row-requires c = record {
  row = (node_row c.args.token.now.view c.args.node c.if-node-eq-ANCHOR.false c.requires.node.0, c.requires.node.1);
}

-- which has another slot
pub returns-clause-stays : goal.returns-clause-stays
returns-clause-stays c is = absurd (c.if-node-eq-ANCHOR.false is)

pub returns-clause-loads : goal.returns-clause-loads
returns-clause-loads c = let v = c.args.token.now.view in
    let few = few_to_start v _ c.place_in_row.ensures.seen c.args.node c.args.key _ _
    c.place_in_row.result.loads c.if-node-eq-ANCHOR.false
    (node_row v c.args.node c.if-node-eq-ANCHOR.false c.requires.node.0) c.place_in_row.ensures.at
    c.place_in_row.ensures.loads in
    omega arith
