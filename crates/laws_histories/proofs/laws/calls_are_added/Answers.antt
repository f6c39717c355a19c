use Rattle.laws_histories.proofs.CallLemmas.{add_reading, add_update}
use Rattle.laws_histories.proofs.EffectLemmas.{took_effect}
use Rattle.laws_histories.proofs.laws.calls_are_added.Goals as goal

pub returns : goal.returns
returns c = record {
  reading = add_reading;
  effect = λ pairs words seen log lawful on number stamp base change command e said own is unsaid few.
      took_effect pairs words lawful.opens seen log lawful.enabled on number stamp base change command e said own is unsaid few;
  update = add_update;
}
