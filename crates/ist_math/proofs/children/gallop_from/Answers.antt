use Rattle.std.proofs.Common.{◌+◌, ◌<◌, ◌^◌, sym, arith}
use Rattle.ist_math.proofs.GallopLemmas.{end-near, end-far}
use Rattle.ist_math.proofs.ChildLemmas.{galloped_on, galloped_to, looks_fit}
use Rattle.ist_math.proofs.children.gallop_from.Goals as goal

-- looks are few
pub overflow_add-looks : goal.overflow_add-looks
overflow_add-looks c =
    let few = looks_fit c.args.keys.now c.args.x c.args.from c.loop-gallop.gallop c.loop-gallop.looks
    c.loop-gallop.invariant c.requires.within in
    let h : c.loop-gallop.looks + 1 < 2 ^ 64 = omega arith in record { fits = h }

-- the look was at the probe
pub loop-gallop-preserved : goal.loop-gallop-preserved
loop-gallop-preserved c =
    galloped_on c.args.keys.now c.args.x c.args.from c.loop-gallop.gallop c.told-gallop.result
    c.loop-gallop.looks c.probe-at.result c.loop-gallop.invariant
    c.probe-at.ensures.after_low c.probe-at.ensures.before_high
    c.told-gallop.ensures.low c.told-gallop.ensures.high
    (c.told-gallop.ensures.gallops c.args.from c.loop-gallop.looks c.loop-gallop.invariant.gallops)

-- at the end no key is left
pub returns-clause-value : goal.returns-clause-value
returns-clause-value c =
    sym (galloped_to c.args.keys.now c.args.x c.args.from c.loop-gallop.gallop c.loop-gallop.looks
    c.requires.rising c.loop-gallop.invariant c.loop-gallop-test.ensures.exact)

pub returns-clause-near : goal.returns-clause-near
returns-clause-near c =
    end-near c.loop-gallop.gallop c.args.from c.loop-gallop.looks c.loop-gallop.invariant.gallops
    c.loop-gallop-test.ensures.exact

pub returns-clause-far : goal.returns-clause-far
returns-clause-far c =
    end-far c.loop-gallop.gallop c.args.from c.loop-gallop.looks c.loop-gallop.invariant.gallops
    c.loop-gallop-test.ensures.exact
