use Rattle.std.proofs.Common.{arith, length}
use Rattle.ist_core.specs.WordTerms.{first_row}
use Rattle.ist_image.proofs.PlacingSizeLemmas.{few_fit, opens_fit}
use Rattle.ist_image.proofs.images.Image.lay.Goals as goal

pub needed_words-needed-requires : goal.needed_words-needed-requires
needed_words-needed-requires c = record {
  fits = omega (
    arith,
    few_fit first_row
        (length c.args.pairs.now) (opens_fit c.args.pairs.now c.args.words c.requires.opens),
  );
}
