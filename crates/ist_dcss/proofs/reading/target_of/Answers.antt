use Rattle.std.proofs.Common.{ap, arith}
use Rattle.ist_core.specs.WordTerms.{Rebuild}
use Rattle.ist_rule.proofs.EventLemmas.{looked_goes_on}
use Rattle.ist_dcss.proofs.FieldLemmas.{row_low, row_above, target_told, target_low}
use Rattle.ist_dcss.proofs.reading.target_of.Goals as goal

-- the row lies within the table
pub load-requires-clause-within : goal.load-requires-clause-within
load-requires-clause-within c = let it = c.requires.published in
    let low = (row_low _ c.know.ensures.sound c.args.rebuild (Rebuild it.row) it.published 0 (omega arith)).0 in
    let same = ap (λ t. t.words) c.requires.same_table in omega arith

-- and after the anchor's slot
pub load-requires-clause-no_walk : goal.load-requires-clause-no_walk
load-requires-clause-no_walk c at = let it = c.requires.published in
    let above = row_above _ c.know.ensures.sound c.args.rebuild (Rebuild it.row) it.published in
    absurd (omega arith)

-- and the target is a row of it
pub overflow_cast-result : goal.overflow_cast-result
overflow_cast-result c =
    record { fits = target_low _ _ _ _ c.load.ensures.looked c.args.rebuild c.requires.published (omega arith) }

pub returns-clause-seen : goal.returns-clause-seen
returns-clause-seen c = looked_goes_on _ _ _ _ c.load.ensures.looked

-- the word is the target
pub returns-clause-target : goal.returns-clause-target
returns-clause-target c =
    target_told _ _ _ _ c.load.ensures.looked c.args.rebuild c.requires.published (omega arith)
