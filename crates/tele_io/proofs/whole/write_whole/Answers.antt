use Rattle.tele_io.proofs.AppendsLemmas.{whole_of_all, part_of_some}
use Rattle.tele_io.proofs.whole.write_whole.Goals as goal

-- all bytes were taken
pub returns-clause-whole : goal.returns-clause-whole
returns-clause-whole g c =
    whole_of_all c.write_out-written.result.1 _ _ c.args.bytes.now _ c.write_out-written.ensures.all c.write_out-written.ensures.taken

-- or some of them
pub returns-clause-part : goal.returns-clause-part
returns-clause-part g c =
    part_of_some c.write_out-written.result.1 _ _ c.args.bytes.now _ c.write_out-written.ensures.within c.write_out-written.ensures.taken

-- the faults are those that were met in writing
pub returns-clause-failed : goal.returns-clause-failed
returns-clause-failed g c = c.write_out-written.ensures.failed

pub returns-clause-counted : goal.returns-clause-counted
returns-clause-counted g c = c.write_out-written.ensures.counted

-- and nothing was written if there was nothing to write
pub returns-clause-idle : goal.returns-clause-idle
returns-clause-idle g c = c.write_out-written.ensures.idle
