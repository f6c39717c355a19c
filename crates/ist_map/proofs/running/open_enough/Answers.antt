use Rattle.std.proofs.Common.{rules, subst}
use Rattle.ist_reopen.specs.Reopening.{IsReopenFaultOf}
use Rattle.ist_map.proofs.HandLemmas.{enough_opened, not_enough_opened}
use Rattle.ist_map.proofs.running.open_enough.Goals as goal

-- the tree has as many words as the pairs take
pub returns-in-Err-Small-clause-new : goal.returns-in-Err-Small-clause-new
returns-in-Err-Small-clause-new c =
    enough_opened c.args.closed.now c.args.words c.in-Err-Small.needed _
    c.open_after-in-Err-Small.result
    (subst (IsReopenFaultOf c.args.closed.now c.args.words) c.in-Err-Small.field-0-is
    c.in-Err-Small.ensures.fault)
    (search rules) c.open_after-in-Err-Small.ensures.new

-- and if it isn't opened, memory ran out
pub returns-in-Err-Small-clause-fault : goal.returns-in-Err-Small-clause-fault
returns-in-Err-Small-clause-fault c =
    not_enough_opened c.args.closed.now c.args.words c.in-Err-Small.needed _
    c.open_after-in-Err-Small.result
    (subst (IsReopenFaultOf c.args.closed.now c.args.words) c.in-Err-Small.field-0-is
    c.in-Err-Small.ensures.fault)
    (search rules) c.open_after-in-Err-Small.ensures.fault
