use Rattle.ist_scan.proofs.ShotLemmas.{taken}
use Rattle.ist_scan.proofs.shots.Shot.take.Goals as goal

pub returns-clause-taken : goal.returns-clause-taken
returns-clause-taken c = let f = c.in_ok-frozen.ensures in
    taken c.args.pass.now c.freeze.new.pass c.in_ok-frozen.frozen f.seen.tree c.know.ensures.lawful f.pairs
