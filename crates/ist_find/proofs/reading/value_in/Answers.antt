use Rattle.std.proofs.Common.{refl}
use Rattle.ist_find.proofs.ReadLemmas.{nothing_told}
use Rattle.ist_find.proofs.reading.value_in.Goals as goal

-- nothing gives no value
pub returns-in-None-clause-value : goal.returns-in-None-clause-value
returns-in-None-clause-value c =
    nothing_told _ c.know.ensures.sound c.args.key _ c.requires.end.0 (c.in-None.ensures.none refl)
