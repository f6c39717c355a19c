use Rattle.ist_core.proofs.KeepingLemmas.{finished_leaves_stay}
use Rattle.ist_core.proofs.laws.finished_leaves_stay.Goals as goal

pub returns : goal.returns
returns c = record {
  stay = λ pairs words earlier log lawful g node k leaves done has.
      finished_leaves_stay pairs words lawful.opens earlier log g lawful.enabled node leaves
      (k, done) has;
}
