use Rattle.std.proofs.Common.{◌∙◌, sym, ap, length, arith}
use Rattle.ist_rule.proofs.EventLemmas.{goes_on_more}
use Rattle.ist_find.proofs.RowEndLemmas.{child_stays, between}
use Rattle.ist_find.proofs.spans.row_ends.Goals as goal

-- the row is published still, with the same keys
pub first_of-first-requires : goal.first_of-first-requires
first_of-first-requires c = let g = c.key_count-count.ensures.seen in
    let here = child_stays c.know.ensures.sound c.requires.row.0 c.args.key c.requires.child g in
    record { row = (here.row, ap (λ v. v.table) g.same ∙ c.requires.row.1); within = here.within }

pub last_of-last-requires : goal.last_of-last-requires
last_of-last-requires c =
    let g = goes_on_more _ _ _ c.key_count-count.ensures.seen c.first_of-first.ensures.seen in
    let here = child_stays c.know.ensures.sound c.requires.row.0 c.args.key c.requires.child g in
    let same = ap (λ v. v.table) g.same ∙ c.requires.row.1 in
    let count = c.key_count-count.ensures.value ∙ sym (ap length here.keys) in
    record { row = (here.row, same); count = count; within = here.within; below = here.below }

-- the ends are keys with the child, and others than before are keys of the row
pub returns : goal.returns
returns c = let first = c.first_of-first.ensures in let last = c.last_of-last.ensures in
    let g = c.key_count-count.ensures.seen in let h = goes_on_more _ _ _ g first.seen in
    let one = child_stays c.know.ensures.sound c.requires.row.0 c.args.key c.requires.child g in
    let two = child_stays c.know.ensures.sound c.requires.row.0 c.args.key c.requires.child h in
    record {
      seen = goes_on_more _ _ _ h last.seen;
      loads = omega arith;
      low = first.low;
      first = first.least _ c.requires.first one.above;
      last = last.most _ c.requires.last two.below;
      high = last.high;
      first_edge = rw one.keys at first.edge;
      last_edge = rw two.keys at last.edge;
      share = between c.know.ensures.sound c.requires.row.0 c.args.key c.requires.child g h _ _ first.above last.under;
    }
