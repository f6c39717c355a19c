use Rattle.ist_rest.proofs.WholeLemmas.{reads_some}
use Rattle.ist_rest.proofs.listing.visit.Goals as goal

-- a slot in good shape reads as something
pub returns-in-None-clause-left : goal.returns-in-None-clause-left
returns-in-None-clause-left g c =
    absurd (reads_some (g.W.WordList.list c.args.words.now) c.args.slot c.requires.good
    (c.reads.ensures.none c.in-None.is))

pub returns-in-None-clause-found : goal.returns-in-None-clause-found
returns-in-None-clause-found g c =
    absurd (reads_some (g.W.WordList.list c.args.words.now) c.args.slot c.requires.good
    (c.reads.ensures.none c.in-None.is))
