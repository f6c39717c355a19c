use Rattle.std.proofs.Common.{refl}
use Rattle.ist_find.proofs.ReadLemmas.{no_change_told}
use Rattle.ist_find.proofs.reading.past_change.Goals as goal

-- a word that is no change reads as itself
pub returns-in-None-clause-side : goal.returns-in-None-clause-side
returns-in-None-clause-side c = no_change_told _ c.know.ensures.sound c.args.word c.requires.names.0
    (c.in-None.ensures.no_change refl)
