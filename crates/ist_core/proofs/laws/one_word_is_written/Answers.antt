use Rattle.ist_core.proofs.TouchLemmas.{touches, slot_there, image_step}
use Rattle.ist_core.proofs.laws.one_word_is_written.Goals as goal

pub returns : goal.returns
returns c = record {
  found = λ pairs words log event lawful none image is. touches pairs words lawful.opens log
      lawful.enabled.0 image is event lawful.enabled.1 none;
  written = λ pairs words log event lawful image is stand. image_step pairs words lawful.opens
      log event lawful.enabled image is stand;
  slots = λ pairs words log lawful image is node i word slot. slot_there pairs words
      lawful.opens log lawful.enabled image is node i word slot;
}
