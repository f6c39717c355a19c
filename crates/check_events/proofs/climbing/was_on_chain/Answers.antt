use Rattle.std.proofs.Common.{◌↔◌, IsTrue, sym, subst, arith}
use Rattle.check_events.specs.Ways.{ClimbsBy}
use Rattle.check_fairness.proofs.AnswerLemmas.{iff_trans, never}
use Rattle.check_events.proofs.WayUpLemmas.{comes_is}
use Rattle.check_events.proofs.DecisionLemmas.{comes_here, comes_low}
use Rattle.check_events.proofs.climbing.was_on_chain.Goals as goal

pub returns-in-None : goal.returns-in-None
returns-in-None c = record {
  exact = λ first log k w.
      never (λ x.
      let on = (comes_is first log c.args.past.now.slots k c.args.node c.args.row).1 x in
      c.in-None.ensures.exact first log k w c.loop-at-test.true
      ((c.loop-at.invariant first log k w).1 on));
}

pub returns-then-at-row : goal.returns-then-at-row
returns-then-at-row c = record {
  exact = λ first log k w.
      never (λ x.
      let on = (comes_is first log c.args.past.now.slots k c.args.node c.args.row).1 x in
      let low = comes_low c.args.past.now.slots k.rises c.args.row c.loop-at.at
      ((c.loop-at.invariant first log k w).1 on) in
      let passed = c.loop-at-test.false in let apart = c.if-at-row.true in
      omega arith);
}

pub returns : goal.returns
returns c = record {
  exact = λ first log k w. let slots = c.args.past.now.slots in
      let here = subst (λ b. IsTrue b ↔ ClimbsBy slots c.args.row c.args.row)
      (sym c.contains_key.ensures) (comes_here slots c.args.row) in
      let left = subst (λ n. ClimbsBy slots c.args.row n ↔ ClimbsBy slots c.args.row c.args.node)
      c.if-at-row.false (c.loop-at.invariant first log k w) in
      iff_trans here (iff_trans left (comes_is first log slots k c.args.node c.args.row));
}
