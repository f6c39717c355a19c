use Rattle.std.proofs.Common.{◌-◌, length}
use Rattle.ist_core.specs.WordTerms.{place_limit}
use Rattle.ist_tree.specs.CallTerms.{changes_seen, IsBetweenRounds}
use Rattle.ist_tree.proofs.updating.run_rounds.Given as goal

-- each round so far let its calls go, and the walks are paid for
abbrev pub invariant-rounds : goal.invariant-rounds
invariant-rounds l = IsBetweenRounds l.initial.pass l.pass

-- and saw one more change of the map
abbrev pub decreases-rounds : goal.decreases-rounds
decreases-rounds l = place_limit - length (changes_seen l.pass)
