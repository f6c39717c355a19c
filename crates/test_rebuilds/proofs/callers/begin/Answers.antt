use Rattle.test_rebuilds.proofs.callers.begin.Goals as goal

pub returns-clause-started : goal.returns-clause-started
returns-clause-started c rebuild is = (c.start.ensures.yes rebuild is).started
