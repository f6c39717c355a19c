use Rattle.std.proofs.Common.{arith, sym, ◌∙◌}
use Rattle.std.proofs.Math.Facts.{Fits-of_lt}
use Rattle.ist_scan.proofs.HalvingLemmas.{between_all, go_up, go_down, none_made, one_more, looks_fit}
use Rattle.ist_scan.proofs.ShotLemmas.{looked_not, looked_more}
use Rattle.ist_scan.proofs.looking.count_below.Goals as goal

pub overflow_add-looks : goal.overflow_add-looks
overflow_add-looks c =
    let few = looks_fit _ _ _ _ c.loop-low-test.true c.loop-low.invariant.halved in Fits-of_lt (omega arith)

pub loop-low-init : goal.loop-low-init
loop-low-init c = record {
  looked = looked_not c.args.pass.now;
  order = omega arith;
  within = omega (arith, c.keys_of-high.ensures.value);
  between = λ pairs h. between_all pairs _ _ (h.number ∙ sym c.keys_of-high.ensures.value);
  halved = none_made _ _ c.keys_of-high.ensures.value;
}

-- the middle pair is below the bound
pub loop-low-preserved-then-from-bound : goal.loop-low-preserved-then-from-bound
loop-low-preserved-then-from-bound c = record {
  looked = looked_more _ _ _ c.loop-low.invariant.looked c.pair_at.ensures.looked;
  order = omega (arith, c.loop-low-test.true);
  within = c.loop-low.invariant.within;
  between = λ pairs h. go_up pairs h.rising _ _ _ _ _ (c.loop-low.invariant.between pairs h)
      (c.pair_at.ensures.pair pairs (c.loop-low.invariant.looked.pairs _ pairs h)) (omega arith);
  halved = one_more _ _ _ _ _ c.loop-low-test.true c.loop-low.invariant.halved (omega arith);
}

-- the middle pair isn't below the bound
pub loop-low-preserved : goal.loop-low-preserved
loop-low-preserved c = record {
  looked = looked_more _ _ _ c.loop-low.invariant.looked c.pair_at.ensures.looked;
  order = omega (arith, c.loop-low-test.true);
  within = omega (arith, c.loop-low.invariant.within, c.loop-low-test.true);
  between = λ pairs h. go_down pairs h.rising _ _ _ _ _ (c.loop-low.invariant.between pairs h)
      (c.pair_at.ensures.pair pairs (c.loop-low.invariant.looked.pairs _ pairs h)) (omega arith);
  halved = one_more _ _ _ _ _ c.loop-low-test.true c.loop-low.invariant.halved (omega arith);
}
