use Rattle.std.proofs.Common.{◌≡◌, ap, ◌∙◌, sym, arith}
use Rattle.ist_scan.specs.Cuts.{slice_of}
use Rattle.ist_scan.specs.Totals.{total_of}
use Rattle.ist_scan.proofs.ShotLemmas.{looked_not, looked_more}
use Rattle.ist_scan.proofs.TotalLemmas.{part_none, part_total_more}
use Rattle.ist_scan.proofs.shots.total_at.Goals as goal

pub loop-i-init : goal.loop-i-init
loop-i-init c = let none = c.of_none-total.ensures.value in record {
  looked = looked_not c.args.pass.now;
  order = omega arith;
  total = λ pairs h. none ∙ ap total_of (sym (part_none pairs c.args.ends.low));
  count = omega (arith, ap (λ t. t.keys) none);
  sum = omega (arith, ap (λ t. t.sum) none);
}

pub loop-i-preserved : goal.loop-i-preserved
loop-i-preserved c = let i = c.loop-i.invariant in let w = c.with-total.ensures in record {
  looked = looked_more c.args.pass.now c.loop-i.pass c.pair_at-pair.new.pass i.looked
      c.pair_at-pair.ensures.looked;
  order = omega (arith, i.order);
  total = λ pairs h. part_total_more pairs c.args.ends.low c.loop-i.i c.pair_at-pair.result c.loop-i.total _
      i.order (c.pair_at-pair.ensures.pair pairs (i.looked.pairs c.args.shot pairs h)) (i.total pairs h)
      w.keys w.sum w.least w.greatest;
  count = omega (arith, i.count, i.order, w.keys);
  sum = w.bound;
}

pub returns-clause-total : goal.returns-clause-total
returns-clause-total c = λ pairs h.
    (let i = c.loop-i.invariant in let order = c.requires.order in
    let same : c.loop-i.i ≡ c.args.ends.high
    = omega (arith, order, c.loop-i-test.false, c.loop-i.auto.i-end order) in
    i.total pairs h ∙ ap (λ n. total_of (slice_of pairs c.args.ends.low n)) same)
