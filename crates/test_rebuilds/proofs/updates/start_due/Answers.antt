use Rattle.std.proofs.Common.{rules}
use Rattle.test_rebuilds.proofs.updates.start_due.Goals as goal

-- the caller may help
pub returns-clause-ready : goal.returns-clause-ready
returns-clause-ready c = let it = c.start.ensures in
    (record { caller = it.caller; refused = it.refused c.requires.due.0.refused; quiet = it.quiet }, search rules)

-- what it has started
pub returns-clause-started : goal.returns-clause-started
returns-clause-started c rebuild is = (c.start.ensures.yes rebuild is).started
