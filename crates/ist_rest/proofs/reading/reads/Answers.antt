use Rattle.std.proofs.Common.{sym}
use Rattle.ist_layout.specs.Meanings.{ref_meant}
use Rattle.ist_rest.proofs.ReadingLemmas.{none_by}
use Rattle.ist_rest.proofs.reading.reads.Goals as goal

-- what both steps don't read is no slot in good shape
pub returns-clause-none : goal.returns-clause-none
returns-clause-none g c = λ none visit same good.
    none_by (g.W.WordList.list c.args.words.now) c.args.word (ref_meant c.in-Some.found)
    (ref_meant c.in-Some-past_change.side) visit
    c.requires.used c.requires.most (sym c.in-Some.ensures.value)
    c.in-Some-past_change.ensures.found (c.past_rebuild.ensures.none none) same good
