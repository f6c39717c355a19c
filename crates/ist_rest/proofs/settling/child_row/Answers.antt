use Rattle.ist_rest.proofs.settling.child_row.Goals as goal

pub returns-in-None-clause-none : goal.returns-in-None-clause-none
returns-in-None-clause-none g c = λ none child e. c.reads.ensures.none c.in-None.is
    c.requires.good.0 c.requires.good.1 c.requires.good.2
