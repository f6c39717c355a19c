use Rattle.ist_core.specs.WordTerms.{Inner}
use Rattle.ist_core.proofs.LeafOrderLemmas.{next_from_rising}
use Rattle.ist_core.proofs.KeyLemmas.{keys_rising, leaf_by_key, leaves_rising, contents_rising}
use Rattle.ist_core.proofs.laws.leaves_lie_by_key.Goals as goal

pub returns : goal.returns
returns c = record {
  keys = λ pairs words log lawful node row e. next_from_rising row.keys
      (keys_rising pairs words lawful.opens log lawful.enabled node (Inner row) e);
  leaves = λ pairs words log lawful node i word leaf row linked slot reads there.
      leaf_by_key pairs words lawful.opens log lawful.enabled node i word leaf row linked slot
      reads there;
  below = λ pairs words log lawful node i word leaves slot has. leaves_rising pairs words
      lawful.opens log lawful.enabled node i word leaves slot has;
  contents = λ pairs words log lawful contents has. contents_rising pairs words lawful.opens log
      lawful.enabled contents has;
}
