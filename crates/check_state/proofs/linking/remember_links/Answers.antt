use Rattle.std.proofs.Common.{◌∙◌, true, sym, ap}
use Rattle.std.proofs.lemmas.Result.{on_ok_weaker}
use Rattle.ist_core.specs.declared.events.Event.TheVariants.{Decide}
use Rattle.check_state.proofs.CallingLemmas.{links_by, links_kept, no_is_no_yes}
use Rattle.check_state.proofs.linking.remember_links.Goals as goal

pub returns-then-not-yes : goal.returns-then-not-yes
returns-then-not-yes c = record {
  exact = λ pairs words log law mirrors known.
      let is =
      c.in-Decide.is ∙ ap (Decide c.in-Decide.caller c.in-Decide.change) c.if-not-yes.true in
      links_kept pairs words law.opens log c.args.event.now law.enabled
      (λ by base e. no_is_no_yes c.in-Decide.caller c.in-Decide.change by base (sym is ∙ e))
      c.args.slots.now known;
}

pub returns-else-not-yes : goal.returns-else-not-yes
returns-else-not-yes c = record {
  exact = on_ok_weaker c.note_links.result
      (λ exact pairs words log law mirrors known.
      links_by pairs words law.opens log c.args.event.now c.in-Decide.caller c.in-Decide.change
      c.args.replica.now c.args.slots.now c.note_links.new.slots
      (c.in-Decide.is ∙ ap (Decide c.in-Decide.caller c.in-Decide.change) c.if-not-yes.false)
      law.enabled mirrors known exact)
      c.note_links.ensures.exact;
}

pub returns-in_default : goal.returns-in_default
returns-in_default c = record {
  exact = λ pairs words log law mirrors known.
      links_kept pairs words law.opens log c.args.event.now law.enabled
      (λ by base. c.in_default.not-Decide by base true) c.args.slots.now known;
}
