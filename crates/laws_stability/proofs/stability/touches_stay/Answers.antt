use Rattle.laws_stability.proofs.FoundWordLemmas.{touch_stays}
use Rattle.laws_stability.proofs.stability.touches_stay.Goals as goal

pub returns : goal.returns
returns c = record {
  touch = λ pairs words earlier log event l on can adds.
      touch_stays pairs words earlier log on l.enabled event can adds;
}
