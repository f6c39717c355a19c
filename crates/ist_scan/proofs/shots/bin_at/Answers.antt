use Rattle.ist_scan.proofs.ShotLemmas.{looked_more}
use Rattle.ist_scan.proofs.shots.bin_at.Goals as goal

pub returns-clause-looked : goal.returns-clause-looked
returns-clause-looked c = looked_more c.args.pass.now c.ends_of-ends.new.pass c.total_at.new.pass
    c.ends_of-ends.ensures.looked c.total_at.ensures.looked
