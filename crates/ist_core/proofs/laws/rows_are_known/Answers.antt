use Rattle.std.proofs.Common.{⊎_elim}
use Rattle.ist_core.specs.LogTerms.{still_held, is_published, was_lost}
use Rattle.ist_core.specs.WordTerms.{start}
use Rattle.ist_core.proofs.SoundLemmas.{known}
use Rattle.ist_core.proofs.StepLemmas.{sound_start}
use Rattle.ist_core.proofs.laws.rows_are_known.Goals as goal

pub returns : goal.returns
returns c = record {
  known = λ pairs words log lawful caller base size reserved. ⊎_elim
      (λ here. ⊎_elim (λ held. still_held held) (λ there. is_published there.0 there.1 there.2)
      here)
      (λ lost. was_lost lost)
      (known (start pairs words) log caller base size (sound_start pairs words) lawful.enabled
      reserved);
}
