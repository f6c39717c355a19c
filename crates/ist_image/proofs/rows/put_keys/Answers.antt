use Rattle.std.proofs.Common.{◌∙◌, sym, arith}
use Rattle.ist_image.proofs.PlacingSizeLemmas.{part_start-first}
use Rattle.ist_image.proofs.RisingLemmas.{keys_left, begins_next, begins_within, key_put, keys_put}
use Rattle.ist_image.proofs.rows.put_keys.Goals as goal

pub loop-j-init : goal.loop-j-init
loop-j-init c = record {
  start = sym (part_start-first c.args.cut.now.count);
  left = keys_left c.args.pairs.now c.args.words.now c.args.place;
}

-- the next part begins at one of the pairs
pub bounds-pairs-start : goal.bounds-pairs-start
bounds-pairs-start c = let cut = c.args.cut.now in
    begins_within c.args.pairs.now cut.count cut.children cut.several c.requires.cut cut.degree c.loop-j.j _
    c.loop-j-test.true c.loop-j.auto.j c.next_start-start.ensures.value

-- its first key is written
pub loop-j-preserved : goal.loop-j-preserved
loop-j-preserved c = let cut = c.args.cut.now in record {
  start = begins_next c.args.pairs.now cut.count cut.children cut.several c.requires.cut cut.degree
      c.loop-j.j _ c.loop-j-test.true c.loop-j.auto.j c.next_start-start.ensures.value;
  left = key_put c.args.pairs.now cut.count cut.children cut.several c.requires.cut cut.degree c.loop-j.j _
      c.loop-j-test.true c.loop-j.auto.j c.next_start-start.ensures.value c.loop-j.words c.args.place _
      ∙ c.loop-j.invariant.left;
}

pub returns : goal.returns
returns c = let cut = c.args.cut.now in record {
  exact = keys_put c.args.pairs.now cut.count cut.children cut.several c.requires.cut cut.degree
      c.args.words.now c.loop-j.words c.args.place c.loop-j.j (omega (arith, cut.least, c.loop-j.auto.j))
      c.loop-j.invariant.left;
}
