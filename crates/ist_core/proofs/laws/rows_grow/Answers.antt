use Rattle.ist_core.proofs.FateLemmas.{grow_between}
use Rattle.ist_core.proofs.laws.rows_grow.Goals as goal

pub returns : goal.returns
returns c = record {
  grow = λ pairs words earlier log lawful on. grow_between pairs words earlier
      log lawful.enabled on;
}
