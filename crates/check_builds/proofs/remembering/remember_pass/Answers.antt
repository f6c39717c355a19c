use Rattle.std.proofs.Common.{◌∷◌, sym, subst}
use Rattle.std.proofs.lemmas.Result.{on_ok_weaker}
use Rattle.check_events.specs.Remembering.{KnowsPasses}
use Rattle.check_builds.specs.Passed.{PassesAreOne}
use Rattle.check_builds.proofs.TableLemmas.{passes_kept}
use Rattle.check_builds.proofs.remembering.remember_pass.Goals as goal

pub returns-in-Pass : goal.returns-in-Pass
returns-in-Pass c = record {
  exact = on_ok_weaker c.note_pass.result
      (λ exact log one known. subst (λ e. KnowsPasses c.note_pass.new.passed (e ∷ log))
      (sym c.in-Pass.is) (exact log c.in-Pass.caller (subst (λ e. PassesAreOne (e ∷ log))
      c.in-Pass.is one) known))
      c.note_pass.ensures.exact;
}

pub returns-in_default : goal.returns-in_default
returns-in_default c = record {
  exact = λ log one known. passes_kept c.args.passed.now log
      c.args.event.now c.in_default.not-Pass known;
}
