use Rattle.std.proofs.Common.{◌∙◌}
use Rattle.ist_scan.proofs.ShotLemmas.{GoesOnWell, frozen_on}
use Rattle.test_trees.proofs.shots.rebuild_beside.Goals as goal

pub returns-clause-frozen : goal.returns-clause-frozen
returns-clause-frozen c = let pass = c.args.pass.now in let seen = c.take-other.ensures.seen in
    let on : GoesOnWell pass c.take-other.new.pass
    = record { tree = seen.tree; seen = seen.seen; lawful = c.know.ensures.lawful } in
    frozen_on pass c.take-other.new.pass on c.args.shot.now c.requires.frozen

pub returns-clause-same_tree : goal.returns-clause-same_tree
returns-clause-same_tree c = c.take-other.ensures.seen.tree ∙ c.requires.same_tree
