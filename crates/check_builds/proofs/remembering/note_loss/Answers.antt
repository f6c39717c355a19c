use Rattle.std.proofs.Common.{refl, arith}
use Rattle.check_builds.proofs.BuildTableLemmas.{loss_known}
use Rattle.check_builds.proofs.remembering.note_loss.Goals as goal

pub returns-clause-exact : goal.returns-clause-exact
returns-clause-exact c log bases known = let old = c.args.builds.now in
    loss_known old log c.args.caller old.count c.insert.new.self known (omega arith)
    c.in_ok-insert.ensures.updates bases refl
