use Rattle.std.proofs.Common.{◌≡◌, ◌≢◌, ◌↔◌, IsTrue, subst, sym, refl, arith}
use Rattle.ist_core.specs.WordTerms.{anchor}
use Rattle.ist_core.specs.TreeTerms.{WasLinked}
use Rattle.check_events.proofs.WayUpLemmas.{anchor_linked, linked_is}
use Rattle.check_events.proofs.climbing.was_linked.Goals as goal

pub returns-then-node-from : goal.returns-then-node-from
returns-then-node-from c = record {
  exact = λ first log k. let same : anchor ≡ c.args.node = omega arith in
      ((λ _. subst (λ n. WasLinked first log n) same (anchor_linked first log)), (λ _. refl));
}

pub returns : goal.returns
returns c = record {
  exact = λ first log k. let far : c.args.node ≢ anchor = omega arith in
      subst (λ b. IsTrue b ↔ WasLinked first log c.args.node) (sym c.contains_key.ensures)
      (linked_is first log c.args.past.now.slots k c.args.node far);
}
