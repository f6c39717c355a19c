use Rattle.std.proofs.Common.{◌∙◌, sym, ap}
use Rattle.std.proofs.lemmas.Result.{IfOk-weaker}
use Rattle.ist_core.specs.declared.events.Event.TheVariants.{Root, Place, Lose}
use Rattle.ist_core.specs.LogTerms.{state_of}
use Rattle.ist_check.proofs.StandingLemmas.{enabled_by, held_are_free}
use Rattle.ist_check.proofs.coming.may_build.Goals as goal

pub returns-in-Root : goal.returns-in-Root
returns-in-Root c = record {
  exact = IfOk-weaker c.can_root.result _ _
      (λ may exact pairs words log knows build. enabled_by pairs words log
      (ap (Root c.in-Root.caller c.in-Root.rebuild c.in-Root.word) c.as_slice-rows.ensures.value
      ∙ sym c.in-Root.is) may (exact (state_of pairs words log) knows.mirrors
      knows.remembers.started (held_are_free pairs words log knows.lawful)))
      c.can_root.ensures.exact;
}

pub returns-in-Place : goal.returns-in-Place
returns-in-Place c = let i = c.in-Place in record {
  exact = IfOk-weaker c.can_place.result _ _
      (λ may exact pairs words log knows build. enabled_by pairs words log
      (ap (Place i.caller i.rebuild i.part i.word) c.as_slice-rows-in-Place.ensures.value
      ∙ sym i.is)
      may (exact (state_of pairs words log) knows.mirrors
      (held_are_free pairs words log knows.lawful) knows.remembers.leaves))
      c.can_place.ensures.exact;
}

pub returns-in-Lose : goal.returns-in-Lose
returns-in-Lose c = record {
  exact = IfOk-weaker c.can_lose.result _ _
      (λ may exact pairs words log knows build. enabled_by pairs words log
      (ap (Lose c.in-Lose.caller) c.as_slice.ensures.value ∙ sym c.in-Lose.is) may
      (exact (state_of pairs words log) log knows.mirrors knows.remembers.lists
      knows.remembers.builds))
      c.can_lose.ensures.exact;
}
