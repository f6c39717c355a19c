use Rattle.std.proofs.Common.{◌∷◌, ◌∙◌, sym, ap, subst}
use Rattle.std.proofs.lemmas.Result.{on_ok_weaker}
use Rattle.ist_core.specs.declared.events.Event.TheVariants.{Decide}
use Rattle.ist_core.specs.LogTerms.{Lawful, state_of}
use Rattle.check_events.specs.Remembering.{KnowsStarts}
use Rattle.check_state.proofs.StartedLemmas.{starts_kept, starts_refused, starts_more}
use Rattle.check_state.proofs.starting.remember_start.Goals as goal

pub returns-then-not-yes : goal.returns-then-not-yes
returns-then-not-yes c = record {
  exact = λ pairs words log law mirrors known.
      let is = c.in-Decide.is ∙ ap (Decide c.in-Decide.caller c.in-Decide.change)
      c.if-not-yes.true in
      subst (λ e. KnowsStarts c.args.started.now (state_of pairs words (e ∷ log))) (sym is)
      (starts_refused pairs words log c.in-Decide.caller c.in-Decide.change
      (subst (λ e. Lawful pairs words (e ∷ log)) is law) c.args.started.now known);
}

pub returns-else-not-yes : goal.returns-else-not-yes
returns-else-not-yes c = record {
  exact = on_ok_weaker c.note_start.result
      (λ exact pairs words log law mirrors known.
      let is = c.in-Decide.is ∙ ap (Decide c.in-Decide.caller c.in-Decide.change)
      c.if-not-yes.false in
      subst (λ e. KnowsStarts c.note_start.new.started (state_of pairs words (e ∷ log))) (sym is)
      (starts_more pairs words log c.in-Decide.caller c.in-Decide.change
      (subst (λ e. Lawful pairs words (e ∷ log)) is law) c.args.started.now
      c.note_start.new.started (exact (state_of pairs words log) mirrors) known))
      c.note_start.ensures.exact;
}

pub returns-in_default : goal.returns-in_default
returns-in_default c = record {
  exact = λ pairs words log law mirrors known. starts_kept pairs words
      log c.args.event.now c.in_default.not-Decide law c.args.started.now known;
}
