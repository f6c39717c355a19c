use Rattle.laws_histories.proofs.ReachedByKeyLemmas.{refused_is_lawful, refused_changes, refused_contents}
use Rattle.laws_histories.proofs.examples.a_refused_put_leaves_the_map.Goals as goal

pub returns : goal.returns
returns c = record { lawful = refused_is_lawful; changes = refused_changes; contents = refused_contents }
