use Rattle.std.proofs.Common.{◌≡◌, ◌≤◌, [], ◌∷◌, length, All, ap, ◌∙◌, sym, subst, arith, length-append}
use Rattle.std.proofs.lemmas.List.Elements.{All-push}
use Rattle.ist_tree.specs.CallTerms.{MakerFace}
use Rattle.try_bench.specs.declared.workers.Worker.{Worker}
use Rattle.try_bench.proofs.runs.make_workers.Goals as goal

-- one more worker has a pass on the tree
pub loop-number-preserved : goal.loop-number-preserved
loop-number-preserved c = let old = c.loop-number.invariant in
    let items = c.in_ok-push.ensures.items in
    let long = ap length items ∙ length-append c.loop-number.workers.items (c.make_worker.result ∷ []) in
    let made = ap (λ (m : MakerFace). m.made) c.pass-pass.ensures.maker in record {
      trees = subst (All (λ (w : Worker). w.pass.tree ≡ c.args.tree.now)) (sym items)
          (All-push (λ (w : Worker). w.pass.tree ≡ c.args.tree.now) c.loop-number.workers.items
          c.make_worker.result old.trees c.make_worker.ensures.same_tree);
      spans = subst (All (λ (w : Worker). 1 ≤ w.plan.span)) (sym items)
          (All-push (λ (w : Worker). 1 ≤ w.plan.span) c.loop-number.workers.items
          c.make_worker.result old.spans
          (subst (λ p. 1 ≤ p.span) (sym c.make_worker.ensures.plan) c.requires.some));
      made = omega (arith, long, made, old.made);
      same_tree = ap (λ (m : MakerFace). m.tree) c.pass-pass.ensures.maker ∙ old.same_tree;
      taken = ap (λ (m : MakerFace). m.taken) c.pass-pass.ensures.maker ∙ old.taken;
      count = omega (arith, long, old.count);
    }
