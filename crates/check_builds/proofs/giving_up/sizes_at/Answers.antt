use Rattle.std.proofs.Common.{◌≡◌, ◌↔◌, ◌+◌, List, ℕ, take, sym, subst}
use Rattle.ist_core.specs.TreeTerms.{HoldsSizes}
use Rattle.check_builds.proofs.LoseLemmas.{none_are, one_more}
use Rattle.check_builds.proofs.giving_up.sizes_at.Goals as goal

pub returns-in-None : goal.returns-in-None
returns-in-None c = record {
  exact = λ t h.
      none_are t c.args.caller c.args.bases.now c.loop-base.base-index c.loop-base-test.true
      c.size_at.result c.in-None.is (c.size_at.ensures.exact t h);
}

pub loop-base-preserved : goal.loop-base-preserved
loop-base-preserved c t h sizes = let b = c.args.bases.now in
    subst (λ (xs : List ℕ). (xs ≡ sizes)
    ↔ HoldsSizes t c.args.caller (take (c.loop-base.base-index + 1) b) sizes)
    (sym c.in_ok-push-in-Some.ensures.items)
    (one_more t c.args.caller b c.loop-base.base-index c.loop-base-test.true c.loop-base.sizes.items
    c.in-Some.size c.size_at.result c.in-Some.is (c.size_at.ensures.exact t h)
    (c.loop-base.invariant t h) sizes)
