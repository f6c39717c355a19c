use Rattle.std.proofs.Common.{arith}
use Rattle.ist_rule.proofs.EventLemmas.{goes_on_more}
use Rattle.ist_build.proofs.DescentLemmas.{few_loads, few_below, past, past_nothing, past_leaf, past_row, at_leaf, below_row, not_past}
use Rattle.ist_build.proofs.ReadingLemmas.{reading_begun}
use Rattle.ist_build.proofs.PlaceLemmas.{slots_on}
use Rattle.ist_build.proofs.descent.+go_down.Goals as goal
use Rattle.ist_build.proofs.descent.+go_down.Goals.{in-Nothing, in-Leaf+else-skip-eq0, in-Row+else-skip-keys}

pub loop-index-init : goal.loop-index-init
loop-index-init t c =
    let e = c.degree_of-degree.ensures in (
      e.seen,
      e.slots,
      e.counted,
      omega arith,
      reading_begun _ _ _ _ _ c.know.ensures.sound e.seen (c.requires.finished.0.k, c.requires.finished.0.finished)
          (omega arith),
    )

pub overflow_add-loads : goal.overflow_add-loads
overflow_add-loads t c = let i = c.loop-index.invariant in
    let few = few_loads _ i.0.sound _ _ _ _ _ i.1 c.loop-index-test.true i.3 c.look_below-below.ensures.few in
    record { fits = omega arith }

pub overflow_add-result : goal.overflow_add-result
overflow_add-result t c = let i = c.loop-index.invariant in let e = c.look_below-below.ensures in
    let rest = few_below _ c.look_below-below.new.token.view i.0.sound _ _ _ _ _ _ _ _ i.1 c.loop-index-test.true
    i.3 e.few _ c.in-Row.is e.under c.go_down-reached.ensures.fits in
    record { fits = omega arith }

pub returns-then-skip-eq0 : goal.returns-then-skip-eq0
returns-then-skip-eq0 t c = let i = c.loop-index.invariant in let e = c.look_below-below.ensures in
    record {
      seen = goes_on_more _ _ _ i.0 e.seen;
      read = λ leaves has. at_leaf leaves _ _ _ _ _ i.0.sound e.seen i.1 c.loop-index-test.true _ _
          (i.4 leaves has) _ _ c.in-Leaf.is e.under c.if-skip-eq0.true;
      counted = omega (arith, i.2, e.counted);
      fits = few_loads _ i.0.sound _ _ _ _ _ i.1 c.loop-index-test.true i.3 e.few;
    }

pub returns-then-skip-keys : goal.returns-then-skip-keys
returns-then-skip-keys t c = let i = c.loop-index.invariant in let e = c.look_below-below.ensures in
    let g = c.go_down-reached.ensures in record {
      seen = goes_on_more _ _ _ (goes_on_more _ _ _ i.0 e.seen) g.seen;
      read = λ leaves has. below_row leaves _ _ _ _ _ i.0.sound e.seen i.1 c.loop-index-test.true _ _
          (i.4 leaves has) _ _ _ _ c.in-Row.is e.under g.read;
      counted = omega (arith, i.2, e.counted, g.counted);
      fits = few_below _ c.look_below-below.new.token.view i.0.sound _ _ _ _ _ _ _ _ i.1 c.loop-index-test.true
          i.3 e.few _ c.in-Row.is e.under g.fits;
    }

pub loop-index-preserved : goal.loop-index-preserved
loop-index-preserved t c = let i = c.loop-index.invariant in
    let e = c.look_below-below.ensures in (
      goes_on_more _ _ _ i.0 e.seen,
      slots_on _ _ e.seen _ _ i.1,
      omega (arith, i.2, e.counted),
      omega (arith, i.3, e.few),
      (λ leaves has.
          let following = past leaves _ _ c.args.node _ _ i.0.sound e.seen i.1 c.loop-index-test.true
          c.args.i _ (i.4 leaves has) c.match-below.skip _ e.under in
          elim c.match-below.branch [
            | in-Nothing w ↦ following (past_nothing w.in-Nothing.is w.skip-is)
            | in-Leaf+else-skip-eq0 w ↦ following (past_leaf w.in-Leaf.base w.in-Leaf.is
                (let some = w.if-skip-eq0.false in omega arith) w.skip-is)
            | in-Row+else-skip-keys w ↦ following (past_row w.in-Row.base w.in-Row.keys w.in-Row.is
                w.if-skip-keys.false w.skip-is)
          ]),
    )

pub unreachable-requires : goal.unreachable-requires
unreachable-requires t c = let i = c.loop-index.invariant in
    not_past _ _ c.know.ensures.sound i.0.sound _ _ _ _ _ i.1 c.loop-index-test.false c.requires.finished.0 i.4
