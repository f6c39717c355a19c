use Rattle.std.proofs.Common.{◌∙◌, ◌+◌, ◌^◌, ap, arith}
use Rattle.ist_core.specs.WordTerms.{inner_words}
use Rattle.ist_image.proofs.PlacingSizeLemmas.{part_base-first, row_fits}
use Rattle.ist_image.proofs.cuts.RowCut.first_base.Goals as goal

-- the row lies below the limit
pub inner_words-requires : goal.inner_words-requires
inner_words-requires c = let self = c.args.self.now in
    let row = row_fits c.args.base self.count (2 ^ 28) self.several c.requires.fits in
    record { fits = omega (arith, self.degree, row) }

pub overflow_add-result : goal.overflow_add-result
overflow_add-result c = let self = c.args.self.now in
    let row = row_fits c.args.base self.count (2 ^ 28) self.several c.requires.fits in
    omega (arith, self.degree, row, c.inner_words.ensures.value)

pub returns : goal.returns
returns c = record {
  value = ap (λ k. c.args.base + k) (c.inner_words.ensures.value ∙ ap inner_words c.args.self.now.degree)
      ∙ part_base-first c.args.base c.args.self.now.count;
}
