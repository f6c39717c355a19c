use Rattle.std.proofs.Common.{◌<◌, ◌^◌, length, map, sym, subst}
use Rattle.std.specs.List.Sorted.{IsStrictlyIncreasing}
use Rattle.ist_core.specs.WordTerms.{IsImage, start}
use Rattle.ist_reopen.proofs.ReopenLemmas.{found_few, found_rise, opens_after}
use Rattle.ist_reopen.proofs.reopening.open_after.Goals as goal

-- the pairs that closed words hold are few, and in order
pub open_over-requires-clause-rising : goal.open_over-requires-clause-rising
open_over-requires-clause-rising c =
    subst (λ ps. IsStrictlyIncreasing (map (λ pair. pair.key) ps)) (sym c.deref.ensures.value)
    (found_rise c.args.closed.now c.in_ok-pairs.pairs.items c.know.ensures.stands
    c.in_ok-pairs.ensures.of_map)

pub open_over-requires-clause-few : goal.open_over-requires-clause-few
open_over-requires-clause-few c = subst (λ ps. length ps < 2 ^ 32) (sym c.deref.ensures.value)
    (found_few c.args.closed.now c.in_ok-pairs.pairs.items c.know.ensures.stands
    c.in_ok-pairs.ensures.of_map)

-- and the new tree begins with them
pub returns-clause-new : goal.returns-clause-new
returns-clause-new c =
    opens_after c.args.closed.now c.args.words c.deref.result.now c.in_ok-pairs.pairs.items
    c.in_ok-open_over.field-0.0 c.in_ok-open_over.field-0.1 c.in_ok-open_over.ensures.new
    c.deref.ensures.value c.in_ok-pairs.ensures.held c.in_ok-pairs.ensures.of_map

-- whose words are in the memory of the image
pub returns-clause-image : goal.returns-clause-image
returns-clause-image c = subst (λ ps. IsImage (start ps c.args.words) c.open_over.new.image)
    (sym c.in_ok-open_over.ensures.new.start_is) c.in_ok-open_over.ensures.image
