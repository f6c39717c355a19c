use Rattle.std.proofs.Common.{◌∙◌, ◌+◌, arith, length, take, sym, ap, subst, refl}
use Rattle.std.proofs.Math.Seq.{length-sets}
use Rattle.ist_core.specs.WordTerms.{first_row, ideal_words, start, IsImage}
use Rattle.ist_image.specs.Zeros.{ZerosFrom}
use Rattle.ist_image.specs.Placing.{image_words}
use Rattle.ist_image.proofs.PlacingSizeLemmas.{few_fit, opens_fit}
use Rattle.ist_image.proofs.RisingLemmas.{image_laid, zeros_after, words_laid}
use Rattle.ist_image.proofs.images.put_image.Goals as goal

pub needed_words-requires : goal.needed_words-requires
needed_words-requires c = omega (
  arith,
  few_fit first_row (length c.args.pairs.now) (opens_fit c.args.pairs.now c.args.size c.requires.opens),
)

pub put_tree-requires-clause-few : goal.put_tree-requires-clause-few
put_tree-requires-clause-few c = few_fit first_row (length c.args.pairs.now)
    (opens_fit c.args.pairs.now c.args.size c.requires.opens)

pub returns : goal.returns
returns c = let pairs = c.args.pairs.now in let old = c.args.words.now in
    let same = words_laid old c.put_tree.new.words c.needed_words.result c.tree_word.result
    c.from-first.result pairs c.needed_words.ensures.value
    (c.tree_word.ensures.value pairs refl) c.from-first.ensures c.put_tree.ensures.exact in
    record {
      image = subst (λ ws. IsImage (start pairs c.args.size) (take c.args.size ws)) (sym same)
          (image_laid pairs old c.args.size c.requires.opens c.requires.within c.requires.zeros);
      zeros = subst (ZerosFrom (first_row + ideal_words (length pairs))) (sym same)
          (zeros_after pairs old c.args.size c.requires.opens c.requires.within c.requires.zeros);
      length = ap length same ∙ length-sets old 0 (image_words pairs);
    }
