use Rattle.check_builds.proofs.ideals.+are_keys.Given as goal

abbrev pub decreases-are_keys : goal.decreases-are_keys
decreases-are_keys l = l.left
