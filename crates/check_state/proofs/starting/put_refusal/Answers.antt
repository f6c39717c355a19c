use Rattle.std.proofs.Common.{◌∙◌, sym, ap, inl, inr, ⊎_elim}
use Rattle.check_events.specs.Remembering.{pair_key}
use Rattle.check_fairness.proofs.TargetLemmas.{held_after}
use Rattle.check_builds.proofs.TableLemmas.{pair_once}
use Rattle.check_state.proofs.starting.put_refusal.Goals as goal

pub returns : goal.returns
returns c = record {
  exact = λ caller node fits.
      let it = held_after c.args.refused.now c.insert.new.self c.pair_key.result
      (pair_key caller node) (c.in_ok-insert.ensures.updates.0 (pair_key caller node)) in
      let key = c.pair_key.ensures.value in (
        (λ h. ⊎_elim (λ k. inl k) (λ k. inr (pair_once caller node c.args.owner c.args.on fits
            c.ranges.on.fits (k ∙ key))) (it.0 h)),
        (λ s. it.1 (⊎_elim (λ k. inl k)
            (λ k. inr (ap (λ x. pair_key x node) k.0 ∙ ap (pair_key c.args.owner) k.1
            ∙ sym key)) s)),
      );
}
