use Rattle.std.proofs.Common.{◌∙◌, ◌-◌, ◌<◌, nat_lt, cond, ap, subst, arith}
use Rattle.ist_find.proofs.KeyLemmas.{run_begins, run_on, run_fits, run_ends}
use Rattle.ist_find.proofs.keys.gallop_from.Goals as goal

-- the look at the guess was the first
pub loop-gallop-init : goal.loop-gallop-init
loop-gallop-init c = let k = c.key_at.ensures in let b = c.begin-gallop.ensures in
    run_begins _ _ c.know.ensures.sound c.args.node c.args.from c.args.key _ c.key_at.result
    c.requires.row.0 k.seen k.loads k.value
    (subst (λ n. c.args.from < n) c.requires.count c.requires.within) c.requires.first
    c.requires.last b.low
    (b.high
    ∙ ap (λ n. cond (nat_lt c.args.key c.key_at.result) c.args.from (n - 1)) c.requires.count)
    b.gallops

-- they are few enough to be counted
pub overflow_add-loads : goal.overflow_add-loads
overflow_add-loads c =
    let few = run_fits _ _ c.args.node c.args.from c.args.key c.args.count c.loop-gallop.gallop _
    c.loop-gallop.invariant c.requires.count c.requires.within in
    record { fits = omega arith }

-- each look is one load
pub loop-gallop-preserved : goal.loop-gallop-preserved
loop-gallop-preserved c = let k = c.key_at-in-loop-gallop.ensures in let p = c.probe-at.ensures in
    let t = c.told-gallop.ensures in
    run_on _ _ _ _ _ _ _ _ _ _ _ c.loop-gallop.invariant k.seen k.loads k.value p.after_low p.before_high
    t.low t.high t.gallops

pub returns : goal.returns
returns c = record {
  finds = run_ends _ _ c.know.ensures.sound _ _ _ _ _ _ c.requires.row.0 c.loop-gallop.invariant
      c.loop-gallop-test.ensures.exact c.requires.count c.requires.within;
}
