use Rattle.ist_math.proofs.ChildLemmas.{key_after_child}
use Rattle.ist_rule.proofs.EventLemmas.{goes_on_same}
use Rattle.ist_find.proofs.LoadLemmas.{keys_rise}
use Rattle.ist_find.proofs.SpanLemmas.{node_row, row_child}
use Rattle.ist_find.proofs.SlotEndLemmas.{slot_within}
use Rattle.ist_find.proofs.PlaceLemmas.{anchor_ends, keys_end}
use Rattle.ist_find.proofs.sweeping.slot_end.Goals as goal

-- the anchor's slot is for all keys
pub returns-then-node-eq-ANCHOR-clause-seen : goal.returns-then-node-eq-ANCHOR-clause-seen
returns-then-node-eq-ANCHOR-clause-seen c = goes_on_same _ c.know.ensures.sound

pub returns-then-node-eq-ANCHOR-clause-ends : goal.returns-then-node-eq-ANCHOR-clause-ends
returns-then-node-eq-ANCHOR-clause-ends c =
    anchor_ends _ c.know.ensures.sound c.args.node c.args.from c.args.last _ _ c.if-node-eq-ANCHOR.true
    c.requires.at.0 c.requires.some

-- another node is a row, whose keys rise
pub last_of-requires : goal.last_of-requires
last_of-requires c = let v = c.args.token.now.view in let other = c.if-node-eq-ANCHOR.false in
    let row = node_row v c.args.node other c.requires.at.0.node_is in record {
      row = (row, c.requires.at.1);
      count = c.requires.at.0.count_is;
      within = slot_within v c.args.node c.args.from _ c.requires.at.0.child;
      below = key_after_child _ (keys_rise v c.know.ensures.sound c.args.node row) c.args.from _
          (row_child v c.args.node c.args.from _ other c.requires.at.0.child);
    }

pub returns-clause-stays : goal.returns-clause-stays
returns-clause-stays c is = absurd (c.if-node-eq-ANCHOR.false is)

pub returns-clause-ends : goal.returns-clause-ends
returns-clause-ends c =
    keys_end _ c.know.ensures.sound c.args.node c.args.from _ c.args.last _ _ c.if-node-eq-ANCHOR.false
    c.requires.at.0 c.requires.some c.last_of.ensures.high c.last_of.ensures.under c.last_of.ensures.edge
    c.last_of.ensures.most
