use Rattle.std.proofs.Common.{refl}
use Rattle.ist_core.specs.WordTerms.{degree}
use Rattle.ist_core.proofs.DrawLemmas as draws
use Rattle.ist_core.proofs.laws.draws_are_low.Goals as goal

pub returns : goal.returns
returns c = record {
  few = λ pairs words log lawful rebuild k row e f. draws.few_draws pairs words rebuild
      (degree k) log lawful.enabled row k e f refl;
  callers = λ pairs words log lawful. draws.callers_low pairs words log lawful.enabled;
}
