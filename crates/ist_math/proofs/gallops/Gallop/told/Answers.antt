use Rattle.ist_math.proofs.GallopLemmas.{goes_above, goes_below}
use Rattle.ist_math.proofs.gallops.Gallop.told.Goals as goal

pub returns-then-above-clause-gallops : goal.returns-then-above-clause-gallops
returns-then-above-clause-gallops c guess looks h =
    goes_above c.args.self guess looks h c.requires.between c.args.at c.next_step.result
    c.requires.at c.next_step.ensures.value

pub returns-else-above-clause-gallops : goal.returns-else-above-clause-gallops
returns-else-above-clause-gallops c guess looks h =
    goes_below c.args.self guess looks h c.requires.between c.args.at
    c.next_step-else-above.result c.requires.at c.next_step-else-above.ensures.value
