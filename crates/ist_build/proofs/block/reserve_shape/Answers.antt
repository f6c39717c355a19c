use Rattle.std.proofs.Common.{◌≡◌, ◌*◌, ◌-◌, ap, ◌∙◌, arith}
use Rattle.std.specs.List.{sum}
use Rattle.ist_core.specs.WordTerms.{shape}
use Rattle.ist_core.proofs.AllWordLemmas.{ideal_words_is}
use Rattle.ist_rows.proofs.ShortLemmas.{short_goes_on}
use Rattle.ist_build.proofs.AtOnceLemmas.{shape_next}
use Rattle.ist_build.proofs.block.reserve_shape.Goals as goal

-- leaves take two words each
pub overflow_sub-inner : goal.overflow_sub-inner
overflow_sub-inner g c = omega (arith, c.ideal_words.ensures.value ∙ ideal_words_is c.args.size)

-- the rows take the others, and are few words
pub reserve_block-requires : goal.reserve_block-requires
reserve_block-requires g c = let is = c.ideal_words.ensures.value ∙ ideal_words_is c.args.size in
    let rows = ap sum c.requires.0 in
    let next = shape_next c.args.who.now c.args.size g.sizes c.requires.0 c.requires.1.1.0
    c.requires.1.1.1.0 in (c.requires.1.0, (next.0, (next.1, (omega arith, omega arith))))

-- they are taken in the order of the shape
pub returns-clause-taken : goal.returns-clause-taken
returns-clause-taken g c = rw c.requires.0 at c.reserve_block.ensures.taken

-- if they don't fit, the first free word says so
pub returns-clause-full : goal.returns-clause-full
returns-clause-full g c none = let is = c.ideal_words.ensures.value ∙ ideal_words_is c.args.size in
    let asked : c.ideal_words.result - 2 * c.args.size ≡ sum (shape c.args.size) = omega arith in
    rw asked at (c.reserve_block.ensures.none none)

-- and only loads were made
pub returns-clause-none : goal.returns-clause-none
returns-clause-none g c none =
    let h = c.reserve_block.ensures.none none in short_goes_on _ _ h.0 _ h.1
