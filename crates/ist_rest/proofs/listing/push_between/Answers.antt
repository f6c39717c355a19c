use Rattle.std.proofs.Common.{arith}
use Rattle.ist_rest.specs.WordRows.{row_slots}
use Rattle.ist_rest.proofs.WordRowLemmas.{row_lengths}
use Rattle.ist_rest.proofs.WholeLemmas.{pushed}
use Rattle.ist_rest.proofs.listing.push_between.Goals as goal

-- one slot more is left
pub loop-at-preserved : goal.loop-at-preserved
loop-at-preserved g c = let words = g.W.WordList.list c.args.words.now in
    let within = c.requires.row.within.below_next in let two = c.requires.row.degree in
    let long = (row_lengths words c.args.base (omega arith) (omega arith)).1 in record {
      low = omega arith;
      high = omega arith;
      pushed = pushed (row_slots words c.args.base) c.args.base c.loop-at.at c.args.to
          c.slot_at.result c.from.result
          c.loop-at.left.items c.args.left.now.items c.push.new.self.items
          (omega arith) c.loop-at.invariant.high (omega arith) c.slot_at.ensures.value
          c.from.ensures c.loop-at.invariant.pushed c.in_ok-push.ensures.items;
    }
