use Rattle.ist_core.proofs.MentionLemmas.{one_parent}
use Rattle.ist_core.proofs.laws.parents_are_one.Goals as goal

pub returns : goal.returns
returns c = record {
  one = λ pairs words earlier log lawful on node i other j child h k.
      one_parent pairs words lawful.opens earlier log on lawful.enabled node i other j child h k;
}
