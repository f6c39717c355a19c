use Rattle.std.proofs.Common.{◌∙◌}
use Rattle.ist_scan.proofs.ShotLemmas.{GoesOnWell, frozen_on}
use Rattle.test_trees.proofs.shots.put_beside.Goals as goal

pub returns-clause-frozen : goal.returns-clause-frozen
returns-clause-frozen c = let pass = c.args.pass.now in
    let seen = c.put-reply.ensures.worked.seen in
    let on : GoesOnWell pass c.put-reply.new.pass
    = record { tree = seen.tree; seen = seen.seen; lawful = c.know.ensures.lawful } in
    frozen_on pass c.put-reply.new.pass on c.args.shot.now c.requires.frozen

pub returns-clause-same_tree : goal.returns-clause-same_tree
returns-clause-same_tree c = c.put-reply.ensures.worked.seen.tree ∙ c.requires.same_tree
