use Rattle.std.proofs.Common.{◌+◌, arith, refl}
use Rattle.ist_image.proofs.PlacingSizeLemmas.{next_start, end_within}
use Rattle.ist_image.proofs.cuts.RowCut.next_start.Goals as goal

-- a part ends within the pairs
pub overflow_add-result : goal.overflow_add-result
overflow_add-result c = let self = c.args.self.now in
    let end = end_within self.count self.count c.args.j c.args.start c.len.result refl
    (omega (arith, self.degree, c.requires.within)) c.requires.start c.len.ensures.value in
    omega (arith, end, self.fits)

-- and the next one begins there
pub returns : goal.returns
returns c = let self = c.args.self.now in record {
  value = next_start self.count self.count c.args.j c.args.start c.len.result (c.args.j + 1) refl
      c.requires.start c.len.ensures.value (omega arith);
  begin = omega arith;
  end = end_within self.count self.count c.args.j c.args.start c.len.result refl
      (omega (arith, self.degree, c.requires.within)) c.requires.start c.len.ensures.value;
}
