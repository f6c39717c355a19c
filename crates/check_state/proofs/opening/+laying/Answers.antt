use Rattle.std.proofs.Common.{◌≡◌, ◌∙◌, ◌-◌, ap, arith, length}
use Rattle.std.proofs.lemmas.Result.{on_ok_weaker}
use Rattle.ist_image.specs.Placing.{part_base}
use Rattle.ist_image.proofs.PlacingSizeLemmas.{part_base-last, part_fits_at}
use Rattle.ist_image.proofs.PlacedLemmas.{length-cut_part, cut_part}
use Rattle.check_state.proofs.LaidLemmas.{part_before, part_laid, none_laid, top_laid, leaf_laid, nothing_laid}
use Rattle.check_state.proofs.opening.+laying.Goals as goal

-- after the last part nothing is published
pub put_parts-loop-j-init : goal.put_parts-loop-j-init
put_parts-loop-j-init t c =
    let last = part_base-last c.args.base (length c.args.pairs.now) c.requires.several in
    let same = ap (part_base c.args.base (length c.args.pairs.now)) c.degree-j.ensures.value in
    record { most = omega arith; place = omega arith; laid = none_laid _ _ c.degree-j.ensures.value }

-- the previous part ends where the parts so far begin
pub put_parts-overflow_sub-at : goal.put_parts-overflow_sub-at
put_parts-overflow_sub-at t c =
    (part_before c.args.base (length c.args.pairs.now) c.loop-j-test.true c.loop-j.invariant.place
    c.part-place.ensures.len c.ideal_words-at.ensures.value).0

pub put_parts-put_tree-requires : goal.put_parts-put_tree-requires
put_parts-put_tree-requires t c = let n = length c.args.pairs.now in
    let at = part_before c.args.base n c.loop-j-test.true c.loop-j.invariant.place c.part-place.ensures.len
    c.ideal_words-at.ensures.value in
    let p = c.part-place in
    let long = length-cut_part c.args.pairs.now p.result.start p.result.len p.ensures.inside in
    let fits = part_fits_at c.args.base n (c.loop-j.j - 1) _ _ c.requires.several (omega arith) c.requires.fits at.1
    (long ∙ p.ensures.len) in (omega arith, (omega arith, fits))

-- and is published in front of them
pub put_parts-loop-j-preserved : goal.put_parts-loop-j-preserved
put_parts-loop-j-preserved t c = let most = c.loop-j.invariant.most in let p = c.part-place in
    let at = part_before c.args.base (length c.args.pairs.now) c.loop-j-test.true c.loop-j.invariant.place
    p.ensures.len c.ideal_words-at.ensures.value in
    record {
      most = omega arith;
      place = at.1;
      laid = part_laid c.args.base c.args.pairs.now c.loop-j-test.true most at.1
          (cut_part c.args.pairs.now (c.loop-j.j - 1) p.result.start p.result.len p.ensures.start p.ensures.len)
          c.loop-j.invariant.laid c.in_ok-put_tree.ensures.exact;
    }

pub put_parts-returns : goal.put_parts-returns
put_parts-returns t c = let first : c.loop-j.j ≡ 0 = omega arith in
    record { exact = rw first at c.loop-j.invariant.laid }

pub put_tree-returns-in-empty : goal.put_tree-returns-in-empty
put_tree-returns-in-empty t c = record { exact = nothing_laid c.args.base c.args.pairs.now c.in-empty.len_below }

pub put_tree-returns-in-len1 : goal.put_tree-returns-in-len1
put_tree-returns-in-len1 t c = let least = c.in-len1.len_at_least in
    let most = c.in-len1.len_below in let one : length c.args.pairs.now ≡ 1 = omega arith in
    record {
      exact = on_ok_weaker c.put_leaf.result (λ f. leaf_laid c.args.base c.args.pairs.now _ one f)
          c.put_leaf.ensures.exact;
    }

pub put_tree-returns-in_ok-put_parts-in-len2-up : goal.put_tree-returns-in_ok-put_parts-in-len2-up
put_tree-returns-in_ok-put_parts-in-len2-up t c = record {
  exact = on_ok_weaker c.put_inner.result (λ f. top_laid c.args.base c.args.pairs.now c.in-len2-up.len_at_least
      c.in_ok-row-in-len2-up.ensures.value c.in_ok-put_parts-in-len2-up.ensures.exact f) c.put_inner.ensures.exact;
}
