use Rattle.std.proofs.Common.{◌∙◌, sym, ap}
use Rattle.std.proofs.lemmas.Result.{IfOk-weaker}
use Rattle.ist_core.specs.declared.events.Event.TheVariants.{Root, Place, Lose}
use Rattle.ist_check.proofs.StandingLemmas.{tells_by, held_are_free}
use Rattle.ist_check.proofs.failing.build_fails.Goals as goal

pub returns-in-Root : goal.returns-in-Root
returns-in-Root c = record {
  exact = IfOk-weaker c.root_fails.result _ _ (λ fails exact p w l k build. tells_by p w l
      (ap (Root c.in-Root.caller c.in-Root.rebuild c.in-Root.word) c.as_slice-rows.ensures.value ∙ sym c.in-Root.is)
      fails (exact _ k.mirrors k.remembers.started (held_are_free p w l k.lawful))) c.root_fails.ensures.exact;
}

pub returns-in-Draw : goal.returns-in-Draw
returns-in-Draw c = record {
  exact = λ p w l k build. tells_by p w l (sym c.in-Draw.is) _
      (c.draw_fails.ensures.exact _ l k.mirrors k.remembers.drawn);
}

pub returns-in-Place : goal.returns-in-Place
returns-in-Place c = let i = c.in-Place in record {
  exact = IfOk-weaker c.place_fails.result _ _ (λ fails exact p w l k build. tells_by p w l
      (ap (Place i.caller i.rebuild i.part i.word) c.as_slice-rows-in-Place.ensures.value ∙ sym i.is)
      fails (exact _ k.mirrors (held_are_free p w l k.lawful) k.remembers.leaves)) c.place_fails.ensures.exact;
}

pub returns-in-Lose : goal.returns-in-Lose
returns-in-Lose c = record {
  exact = IfOk-weaker c.lose_fails.result _ _ (λ fails exact p w l k build. tells_by p w l
      (ap (Lose c.in-Lose.caller) c.as_slice.ensures.value ∙ sym c.in-Lose.is)
      fails (exact _ l k.mirrors k.remembers.lists k.remembers.builds)) c.lose_fails.ensures.exact;
}
