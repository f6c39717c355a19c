use Rattle.std.proofs.Common.{sym}
use Rattle.ist_rule.proofs.EventLemmas.{goes_on_same}
use Rattle.ist_find.proofs.LoadLemmas.{child_is}
use Rattle.ist_find.proofs.EdgeLemmas.{edges_on, edges_row}
use Rattle.ist_find.proofs.SpanLemmas.{anchor_child, node_row, row_child}
use Rattle.ist_find.proofs.spans.shared_ends.Goals as goal

-- the anchor's child is for all keys
pub returns-then-node-eq-ANCHOR-clause-seen : goal.returns-then-node-eq-ANCHOR-clause-seen
returns-then-node-eq-ANCHOR-clause-seen c = goes_on_same _ c.know.ensures.sound

pub returns-then-node-eq-ANCHOR-clause-share : goal.returns-then-node-eq-ANCHOR-clause-share
returns-then-node-eq-ANCHOR-clause-share c k low high =
    anchor_child _ c.know.ensures.sound c.args.node c.args.key k c.args.index
    c.if-node-eq-ANCHOR.true c.requires.child

-- another node is a row
pub row_ends-requires-clause-row : goal.row_ends-requires-clause-row
row_ends-requires-clause-row c =
    (node_row c.args.token.now.view c.args.node c.if-node-eq-ANCHOR.false c.requires.node.0, c.requires.node.1)

pub row_ends-requires-clause-child : goal.row_ends-requires-clause-child
row_ends-requires-clause-child c =
    row_child c.args.token.now.view c.args.node c.args.key c.args.index c.if-node-eq-ANCHOR.false c.requires.child

pub returns-clause-share : goal.returns-clause-share
returns-clause-share c k low high =
    child_is c.args.token.now.view c.args.node (node_row c.args.token.now.view c.args.node c.if-node-eq-ANCHOR.false c.requires.node.0) k
    c.args.index (sym (c.row_ends.ensures.share k low high))

-- they end at edges, as before or by keys of the row
pub returns-clause-edges : goal.returns-clause-edges
returns-clause-edges c = let v = c.args.token.now.view in let other = c.if-node-eq-ANCHOR.false in
    edges_on _ _ c.row_ends.ensures.seen _ _
    (edges_row v c.args.node (node_row v c.args.node other c.requires.node.0) c.args.ends.first
    c.args.ends.last _ _ c.requires.edges c.row_ends.ensures.low c.row_ends.ensures.high
    c.row_ends.ensures.first_edge c.row_ends.ensures.last_edge)
