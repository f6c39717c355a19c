use Rattle.ist_find.proofs.SweepingLemmas.{anchor_led, swept_between}
use Rattle.ist_find.proofs.sweeping.sweep.Goals as goal

-- each key leads to the anchor
pub sweep_below-requires-clause-led : goal.sweep_below-requires-clause-led
sweep_below-requires-clause-led c = (anchor_led _ c.args.first c.args.last, c.requires.same_table)

pub returns-clause-swept : goal.returns-clause-swept
returns-clause-swept c =
    swept_between _ _ c.know.ensures.sound c.args.first c.args.last _ _ c.sweep_below.result c.sweep_below.ensures.swept
