use Rattle.std.proofs.Common.{of_calls}
use Rattle.tele_generations.proofs.running.run_next.Goals as goal

-- `tables` may be called
pub tables-requires : goal.tables-requires
tables-requires g c = c.requires.tables.may_run _ _ _ _ c.requires.may

-- and runs what is left
pub returns : goal.returns
returns g c = record {
  ran = c.requires.tables.ran c.args.tables.now c.args.way c.args.workers c.args.steal
      c.tables.result (search (of_calls, c.tables.ensures));
}
