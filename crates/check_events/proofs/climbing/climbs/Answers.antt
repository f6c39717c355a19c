use Rattle.std.proofs.Common.{◌≡◌, sym, subst, arith}
use Rattle.ist_core.specs.WordTerms.{anchor}
use Rattle.check_events.specs.Ways.{Climbs, at_top}
use Rattle.check_fairness.proofs.AnswerLemmas.{always, iff_trans, never, is_not}
use Rattle.check_events.proofs.DecisionLemmas.{climbs_on, climbs_off, climbs_none}
use Rattle.check_events.proofs.climbing.climbs.Goals as goal

pub returns-in-None : goal.returns-in-None
returns-in-None c = record {
  exact = λ t h r.
      never (λ x. climbs_none c.args.past.now.slots t c.args.key c.loop-at.at (omega arith)
      (sym c.in-None.ensures.value) ((c.loop-at.invariant t h r).1 x));
}

pub returns-then-not-is_child_for : goal.returns-then-not-is_child_for
returns-then-not-is_child_for c = record {
  exact = λ t h r.
      let other = is_not c.is_child_for.result _ (c.is_child_for.ensures.exact t h)
      c.if-not-is_child_for.true in
      never (λ x. climbs_off c.args.past.now.slots c.loop-at.at c.in-Some.slot.now
      (sym c.in-Some.ensures.value) t c.args.key (omega arith) other
      ((c.loop-at.invariant t h r).1 x));
}

pub loop-at-preserved : goal.loop-at-preserved
loop-at-preserved c = λ t h r.
    let child = (c.is_child_for.ensures.exact t h).0 c.if-not-is_child_for.false in
    iff_trans (climbs_on c.args.past.now.slots c.loop-at.at c.in-Some.slot.now
    (sym c.in-Some.ensures.value) t c.args.key (omega arith) child) (c.loop-at.invariant t h r)

pub returns : goal.returns
returns c = record {
  exact = λ t h r. let same : anchor ≡ c.loop-at.at = omega arith in
      always ((c.loop-at.invariant t h r).0
      (subst (λ n. Climbs c.args.past.now.slots t c.args.key n) same at_top));
}
