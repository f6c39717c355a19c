use Rattle.std.proofs.Common.{◌∷◌, ◌∙◌, sym, ap, subst}
use Rattle.std.proofs.lemmas.Result.{on_ok_weaker}
use Rattle.ist_core.specs.declared.events.Event.TheVariants.{Decide}
use Rattle.ist_core.specs.LogTerms.{Lawful, state_of}
use Rattle.check_events.specs.Remembering.{KnowsRefusals}
use Rattle.check_state.proofs.StartedLemmas.{refusals_kept, refusals_accepted, refusals_more}
use Rattle.check_state.proofs.starting.remember_refusal.Goals as goal

pub returns-then-yes : goal.returns-then-yes
returns-then-yes c = record {
  exact = λ pairs words log law mirrors known.
      let is = c.in-Decide.is ∙ ap (Decide c.in-Decide.caller c.in-Decide.change) c.if-yes.true
      in
      subst (λ e. KnowsRefusals c.args.refused.now (state_of pairs words (e ∷ log))) (sym is)
      (refusals_accepted pairs words log c.in-Decide.caller c.in-Decide.change
      (subst (λ e. Lawful pairs words (e ∷ log)) is law) c.args.refused.now known);
}

pub returns-else-yes : goal.returns-else-yes
returns-else-yes c = record {
  exact = on_ok_weaker c.note_refusal.result
      (λ exact pairs words log law mirrors known.
      let is = c.in-Decide.is ∙ ap (Decide c.in-Decide.caller c.in-Decide.change) c.if-yes.false
      in
      subst (λ e. KnowsRefusals c.note_refusal.new.refused (state_of pairs words (e ∷ log)))
      (sym is)
      (refusals_more pairs words log c.in-Decide.caller c.in-Decide.change
      (subst (λ e. Lawful pairs words (e ∷ log)) is law) c.args.refused.now
      c.note_refusal.new.refused (exact (state_of pairs words log) mirrors) known))
      c.note_refusal.ensures.exact;
}

pub returns-in_default : goal.returns-in_default
returns-in_default c = record {
  exact = λ pairs words log law mirrors known. refusals_kept pairs
      words log c.args.event.now c.in_default.not-Decide law c.args.refused.now known;
}
