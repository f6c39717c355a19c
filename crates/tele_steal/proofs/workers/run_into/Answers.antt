use Rattle.std.proofs.Common.{rules}
use Rattle.tele_steal.specs.Runs.{IsRunLane}
use Rattle.tele_steal.proofs.RunLemmas.{put_back}
use Rattle.tele_steal.proofs.workers.run_into.Goals as goal

-- the lanes before are as they were, and the one after them was run
pub returns-clause-ran : goal.returns-clause-ran
returns-clause-ran g c before =
    put_back (IsRunLane g.P.Port.calls g.P.Port.refused) c.args.bag.now.items _
    c.push_reserved.new.self.items
    c.run_after.new.lanes _ _ (search rules) c.push_reserved.ensures.items (search rules)
    (search rules) (search rules) before c.run_after.ensures.ran
