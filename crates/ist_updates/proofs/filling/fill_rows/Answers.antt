use Rattle.ist_updates.proofs.PairLemmas.{fresh_kept}
use Rattle.ist_updates.proofs.filling.fill_rows.Goals as goal

-- the words of all rows are stored
pub returns-clause-stored : goal.returns-clause-stored
returns-clause-stored c = (
  c.fill_change.ensures.stands,
  fresh_kept c.args.who.now c.fill_fresh.new.who c.fill_change.new.who
      c.know.ensures.sound c.requires.caller.0 c.fill_fresh.ensures.caller
      c.fill_fresh.ensures.same c.args.plan.row c.args.plan.base c.args.plan.fresh
      c.requires.rows.0 c.requires.rows.1 c.fill_change.ensures.others c.fill_fresh.ensures.stored,
)
