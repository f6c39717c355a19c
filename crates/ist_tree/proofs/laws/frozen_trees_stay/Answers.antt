use Rattle.ist_tree.proofs.FreezingLemmas.{frozen_pairs_are_one, frozen_pairs_stay, frozen_stays, has_its_pairs}
use Rattle.ist_tree.proofs.laws.frozen_trees_stay.Goals as goal

pub returns : goal.returns
returns c = record {
  stay = frozen_stays;
  pairs_stay = frozen_pairs_stay;
  has = has_its_pairs;
  one = frozen_pairs_are_one;
}
