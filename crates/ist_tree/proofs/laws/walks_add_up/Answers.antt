use Rattle.ist_tree.proofs.SearchCountLemmas.{one_walk_is_few, rounds_bounded, walks_bounded}
use Rattle.ist_tree.proofs.laws.walks_add_up.Goals as goal

pub returns : goal.returns
returns c = record { add_up = walks_bounded; one = one_walk_is_few; rounds = rounds_bounded }
