use Rattle.std.proofs.Common.{◌≡◌, ◌++◌, ◌∷◌, [], ap, ◌∙◌, sym, arith}
use Rattle.ist_scan.specs.Cuts.{slice_of}
use Rattle.ist_scan.proofs.ShotLemmas.{looked_not, looked_more}
use Rattle.ist_scan.proofs.TotalLemmas.{part_none, part_more}
use Rattle.ist_scan.proofs.shots.list_at.Goals as goal

pub loop-i-init : goal.loop-i-init
loop-i-init c = record {
  looked = looked_not c.args.pass.now;
  order = omega arith;
  list = λ pairs h. c.new-list.ensures.items ∙ sym (part_none pairs c.args.ends.low);
}

pub returns-in_err-push-clause-looked : goal.returns-in_err-push-clause-looked
returns-in_err-push-clause-looked c =
    looked_more c.args.pass.now c.loop-i.pass c.pair_at.new.pass c.loop-i.invariant.looked
    c.pair_at.ensures.looked

pub loop-i-preserved : goal.loop-i-preserved
loop-i-preserved c = let i = c.loop-i.invariant in record {
  looked = looked_more c.args.pass.now c.loop-i.pass c.pair_at.new.pass i.looked
      c.pair_at.ensures.looked;
  order = omega (arith, i.order);
  list = λ pairs h. (let at = c.pair_at.ensures.pair pairs (i.looked.pairs c.args.shot pairs h) in
      let x = c.pair_at.result in
      c.in_ok-push.ensures.items ∙ ap (λ l. l ++ x ∷ []) (i.list pairs h)
      ∙ sym (part_more pairs c.args.ends.low c.loop-i.i x i.order at));
}

pub returns-clause-list : goal.returns-clause-list
returns-clause-list c = λ pairs h.
    (let i = c.loop-i.invariant in let order = c.requires.order in let end = c.loop-i.auto.i-end in
    let test = c.loop-i-test.false in
    let same : c.loop-i.i ≡ c.args.ends.high = omega (arith, order, test, end order) in
    i.list pairs h ∙ ap (slice_of pairs c.args.ends.low) same)
