use Rattle.std.proofs.Common.{◌≡◌, ◌∙◌, ap, arith}
use Rattle.ist_core.specs.WordTerms.{degree, ideal_words}
use Rattle.ist_core.proofs.AllWordLemmas.{degree-le}
use Rattle.ist_image.proofs.PlacingSizeLemmas.{part_base-suc, part_base_fits, part_fits_at}
use Rattle.check_state.proofs.LaidLemmas.{slot_more, slots_whole}
use Rattle.check_state.proofs.opening.slots_of.Goals as goal

pub inner_words-requires : goal.inner_words-requires
inner_words-requires c = record { fits = omega (arith, degree-le c.args.count c.requires.several) }

pub overflow_add-at : goal.overflow_add-at
overflow_add-at c = omega (arith, degree-le c.args.count c.requires.several, c.requires.fits.below_limit)

pub tree_word-requires-clause-below_limit : goal.tree_word-requires-clause-below_limit
tree_word-requires-clause-below_limit c =
    omega (arith, part_base_fits c.args.base c.args.count c.loop-j.j c.requires.several (omega arith) c.requires.fits)

pub overflow_add-at-in-loop-j : goal.overflow_add-at-in-loop-j
overflow_add-at-in-loop-j c =
    let part = part_fits_at c.args.base c.args.count c.loop-j.j c.loop-j.at c.part-len.result.len
    c.requires.several (omega arith) c.requires.fits c.loop-j.invariant.place c.part-len.ensures.len in
    omega (arith, part.below_limit)

-- one part more
pub loop-j-preserved : goal.loop-j-preserved
loop-j-preserved c = let at = c.loop-j.invariant.place in
    let len = ap ideal_words c.part-len.ensures.len in record {
      place = omega (arith, part_base-suc c.args.base c.args.count c.loop-j.j);
      slots = slot_more c.args.base (omega arith) at c.part-len.ensures.len c.tree_word.ensures.value
          c.in_ok-push.ensures.items c.loop-j.invariant.slots;
    }

pub returns : goal.returns
returns c = let end : c.loop-j.j ≡ degree c.args.count = omega arith in
    let whole = slots_whole c.args.base end c.loop-j.invariant.slots in
    record { value = λ pairs long. c.from_vec.ensures.value ∙ whole pairs long }
