use Rattle.std.proofs.Common.{◌∙◌, ◌+◌, ℕ, ap, arith, sym, refl, length}
use Rattle.ist_core.specs.WordTerms.{degree, ideal_words}
use Rattle.ist_image.specs.Placing.{part_base}
use Rattle.ist_image.proofs.PlacingSizeLemmas.{PartLies, part_lies, part_start-first, last_end}
use Rattle.ist_image.proofs.PlacedLemmas.{part_put, none_set, all_left, head_set}
use Rattle.ist_image.proofs.laying.+laying.Goals.{put_parts-After-part-part}
use Rattle.ist_image.proofs.laying.+laying.Goals as goal

-- ---- the parts

-- the first part begins after the row
pub put_parts-first_base-at-requires : goal.put_parts-first_base-at-requires
put_parts-first_base-at-requires t c = let same = ap ideal_words c.requires.cut in
    let limit = c.requires.fits.below_limit in record { fits = omega arith }

pub put_parts-loop-j-init : goal.put_parts-loop-j-init
put_parts-loop-j-init t c = let d = c.args.cut.now.degree ∙ ap degree c.requires.cut in
    let place = c.first_base-at.ensures.value ∙ ap (λ n. part_base c.args.base n 0) c.requires.cut in
    record {
      place = place;
      start = sym (part_start-first (length c.args.pairs.now));
      left = all_left c.args.words.now c.args.base _ _ c.args.pairs.now (omega (arith, d)) place;
    }

-- a part lies after the row, within the words of the whole
part_here : (t : ℕ) (c : put_parts-After-part-part t)
    → PartLies c.args.base (length c.args.pairs.now) c.args.cut.now.children c.loop-j.j c.loop-j.at
    (length c.part-part.result.now) (length c.args.words.now)
part_here t c =
    part_lies c.args.base (length c.args.pairs.now) c.args.cut.now.count c.args.cut.now.children c.loop-j.j
    c.loop-j.at (length c.part-part.result.now) (length c.args.words.now) c.args.cut.now.several c.requires.cut
    c.args.cut.now.degree c.loop-j-test.true c.requires.fits c.requires.room c.loop-j.invariant.place
    c.part-part.ensures.part.long

pub put_parts-put_slot-requires : goal.put_parts-put_slot-requires
put_parts-put_slot-requires t c =
    let lies = part_here t (goal.at.put_parts-put_slot-requires t c).After-part-part in record {
      within = c.loop-j-test.true;
      row = omega arith;
      few = lies.row;
      low = lies.low;
      small = lies.small;
    }

pub put_parts-put_tree-at-requires : goal.put_parts-put_tree-at-requires
put_parts-put_tree-at-requires t c =
    let lies = part_here t (goal.at.put_parts-put_tree-at-requires t c).After-part-part in
    (omega arith, (omega arith, (lies.fits, omega arith)))

-- one slot and one part more
pub put_parts-loop-j-preserved : goal.put_parts-loop-j-preserved
put_parts-loop-j-preserved t c =
    let lies = part_here t (goal.at.put_parts-loop-j-preserved t c).After-part-part in record {
      place = c.put_tree-at.ensures.end ∙ lies.next;
      start = c.part-part.ensures.part.next;
      left = part_put c.loop-j.words c.put_slot.new.words c.put_tree-at.new.words c.args.base c.args.cut.now.children
          c.loop-j.j c.loop-j.at c.put_tree-at.result c.args.pairs.now c.part-part.result.now
          (c.args.cut.now.degree ∙ ap degree c.requires.cut) lies.below lies.row c.loop-j.invariant.place
          c.part-part.ensures.part.is (c.put_slot.ensures.exact c.part-part.result.now refl)
          c.put_tree-at.ensures.exact c.put_tree-at.ensures.end ∙ c.loop-j.invariant.left;
    }

pub put_parts-returns-clause-exact : goal.put_parts-returns-clause-exact
put_parts-returns-clause-exact t c = let d = c.args.cut.now.degree ∙ ap degree c.requires.cut in
    sym (none_set c.loop-j.words c.args.base (c.args.base + 3 + c.args.cut.now.children + c.loop-j.j) c.loop-j.at c.loop-j.j
    c.args.pairs.now (omega (arith, d))) ∙ c.loop-j.invariant.left

pub put_parts-returns-clause-end : goal.put_parts-returns-clause-end
put_parts-returns-clause-end t c =
    last_end c.args.base (length c.args.pairs.now) c.args.cut.now.count c.args.cut.now.children c.loop-j.j _
    c.args.cut.now.several c.requires.cut c.args.cut.now.degree (omega arith) c.loop-j.invariant.place

-- ---- the tree

-- the row's fields and keys, and then its slots and its parts
pub put_tree-returns-clause-exact : goal.put_tree-returns-clause-exact
put_tree-returns-clause-exact t c =
    head_set c.args.words.now c.put_head.new.words _ c.args.base c.args.pairs.now
    c.if-pairs-lt2.false c.put_head.ensures.exact c.put_parts.ensures.exact
