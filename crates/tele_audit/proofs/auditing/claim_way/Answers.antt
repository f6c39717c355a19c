use Rattle.std.proofs.Common.{sym}
use Rattle.ist_layout.specs.Meanings.{ref_meant}
use Rattle.ist_rest.proofs.ReadingLemmas.{none_by}
use Rattle.tele_audit.proofs.auditing.claim_way.Goals as goal

pub returns-in_default-past_rebuild-clause-none : goal.returns-in_default-past_rebuild-clause-none
returns-in_default-past_rebuild-clause-none g c = λ none visit same good.
    absurd (none_by (g.W.WordList.list c.args.words.now) c.args.word (ref_meant c.in-Some.found)
    (ref_meant c.in-Some-past_change.side) visit
    c.requires.used c.requires.most (sym c.in-Some.ensures.value)
    c.in-Some-past_change.ensures.found
    (c.past_rebuild.ensures.none c.in_default-past_rebuild.is) same good)
