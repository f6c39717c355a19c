use Rattle.std.proofs.Common.{◌∷◌, sym, subst}
use Rattle.std.proofs.lemmas.Result.{on_ok_weaker}
use Rattle.check_events.specs.Remembering.{KnowsDraws}
use Rattle.check_builds.proofs.TableLemmas.{draws_kept}
use Rattle.check_builds.proofs.remembering.remember_draw.Goals as goal

pub returns-in-Draw : goal.returns-in-Draw
returns-in-Draw c = record {
  exact = on_ok_weaker c.note_draw.result
      (λ exact log known. subst (λ e. KnowsDraws c.note_draw.new.drawn (e ∷ log))
      (sym c.in-Draw.is) (exact log known))
      c.note_draw.ensures.exact;
}

pub returns-in_default : goal.returns-in_default
returns-in_default c = record {
  exact = λ log known. draws_kept c.args.drawn.now log c.args.event.now c.in_default.not-Draw known;
}
