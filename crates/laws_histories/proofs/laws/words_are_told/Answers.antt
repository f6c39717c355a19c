use Rattle.ist_core.proofs.AllLogLemmas.{image_shows, one_word, word_elsewhere}
use Rattle.laws_histories.proofs.laws.words_are_told.Goals as goal

pub returns : goal.returns
returns c = record {
  image = λ t image is place word shown. image_shows t image is shown;
  one = λ pairs words log lawful. one_word pairs words log lawful.enabled;
  elsewhere = λ pairs words log lawful. word_elsewhere pairs words log lawful.enabled;
}
