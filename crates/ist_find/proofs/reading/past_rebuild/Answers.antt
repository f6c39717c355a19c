use Rattle.std.proofs.Common.{refl}
use Rattle.ist_find.proofs.ReadLemmas.{no_rebuild_told}
use Rattle.ist_find.proofs.reading.past_rebuild.Goals as goal

-- a word that is no rebuild reads as what it names
pub returns-in-None-clause-target : goal.returns-in-None-clause-target
returns-in-None-clause-target c =
    no_rebuild_told _ c.know.ensures.sound c.args.word _ c.named.ensures.value c.requires.names.0
    c.requires.plain (c.in-None.ensures.none refl)
