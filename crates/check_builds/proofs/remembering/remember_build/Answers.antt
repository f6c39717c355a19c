use Rattle.std.proofs.Common.{◌∷◌, ◌∙◌, sym, ap, subst}
use Rattle.std.proofs.lemmas.Result.{on_ok_weaker}
use Rattle.ist_core.specs.declared.events.Event.TheVariants.{Root, Place}
use Rattle.check_events.specs.Remembering.{KnowsBuilds}
use Rattle.check_builds.proofs.BuildTableLemmas.{builds_kept, place_known}
use Rattle.check_builds.proofs.remembering.remember_build.Goals as goal

pub returns-in-Root-clause-exact : goal.returns-in-Root-clause-exact
returns-in-Root-clause-exact c = let i = c.in-Root in on_ok_weaker c.note_build.result
    (λ exact log known. subst (λ e. KnowsBuilds c.note_build.new.builds (e ∷ log))
    (ap (Root i.caller i.rebuild i.word) c.as_slice.ensures.value ∙ sym i.is)
    (exact log i.rebuild i.word known))
    c.note_build.ensures.exact

pub returns-in-Place-clause-exact : goal.returns-in-Place-clause-exact
returns-in-Place-clause-exact c = let i = c.in-Place in on_ok_weaker c.note_build-in-Place.result
    (λ exact log known. subst (λ e. KnowsBuilds c.note_build-in-Place.new.builds (e ∷ log))
    (ap (Place i.caller i.rebuild i.part i.word) c.as_slice-in-Place.ensures.value ∙ sym i.is)
    (place_known c.note_build-in-Place.new.builds log i.caller i.rebuild i.part i.word
    c.as_slice-in-Place.result.now (exact log i.rebuild i.word known)))
    c.note_build-in-Place.ensures.exact

pub returns-in-Lose-clause-exact : goal.returns-in-Lose-clause-exact
returns-in-Lose-clause-exact c = on_ok_weaker c.note_loss.result
    (λ exact log known. subst (λ e. KnowsBuilds c.note_loss.new.builds (e ∷ log)) (sym c.in-Lose.is)
    (exact log c.in-Lose.bases known))
    c.note_loss.ensures.exact

pub returns-in_default-clause-exact : goal.returns-in_default-clause-exact
returns-in_default-clause-exact c log known =
    builds_kept c.args.builds.now log c.args.event.now c.in_default.not-Root c.in_default.not-Place
    c.in_default.not-Lose known
