use Rattle.ist_core.specs.WordTerms.{start}
use Rattle.ist_core.proofs.SoundLemmas.{sound}
use Rattle.ist_core.proofs.StepLemmas.{sound_start}
use Rattle.ist_core.proofs.FateLemmas as fates
use Rattle.ist_core.proofs.laws.fates_are_one.Goals as goal

pub returns : goal.returns
returns c = record {
  held_unpublished = λ pairs words log lawful h i.
      (sound (start pairs words) log (sound_start pairs words) lawful.enabled).unpublished h i;
  held_once = λ pairs words log lawful g h i j e.
      (sound (start pairs words) log (sound_start pairs words) lawful.enabled).once g h i j e;
  lost_unpublished = fates.lost_unpublished;
  lost_unheld = fates.lost_unheld;
}
