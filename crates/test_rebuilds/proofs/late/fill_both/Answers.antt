use Rattle.test_rebuilds.proofs.LateLemmas.{both_filled}
use Rattle.test_rebuilds.proofs.late.fill_both.Goals as goal

-- the words of both rows are stored
pub returns-clause-stored : goal.returns-clause-stored
returns-clause-stored c =
    (both_filled c.args.who.now c.fill_row.new.who c.fill_row-2.new.who c.args.put.change
    c.args.put.leaf c.args.put.row c.know.ensures.sound c.know-2.ensures.sound c.requires.caller.0
    c.fill_row.ensures.caller c.requires.rows c.fill_row.ensures.stored
    c.fill_row-2.ensures.stored).stored
