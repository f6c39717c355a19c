use Rattle.std.proofs.Common.{◌∙◌}
use Rattle.test_trees.proofs.scans.rebuild_and_read.Goals as goal

pub take-requires : goal.take-requires
take-requires c = record { same_tree = c.first_wrong.ensures.same_tree }

pub total-requires-clause-same_tree : goal.total-requires-clause-same_tree
total-requires-clause-same_tree c = c.take.ensures.seen.tree ∙ c.first_wrong.ensures.same_tree
