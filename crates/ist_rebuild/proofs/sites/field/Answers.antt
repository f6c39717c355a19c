use Rattle.std.proofs.Common.{◌+◌, ap, arith}
use Rattle.ist_core.specs.WordTerms.{Rebuild}
use Rattle.ist_rule.proofs.EventLemmas.{looked_goes_on}
use Rattle.ist_dcss.proofs.FieldLemmas.{row_low, row_above}
use Rattle.ist_rebuild.proofs.SiteLemmas.{looked_word}
use Rattle.ist_rebuild.proofs.sites.field.Goals as goal

-- the row lies within the table
pub load-requires-clause-within : goal.load-requires-clause-within
load-requires-clause-within c = let it = c.requires.published in
    let low = (row_low _ c.know.ensures.sound c.args.rebuild (Rebuild it.row) it.published
    c.args.offset c.requires.within).0 in
    let from = c.from.ensures in let known = c.know.ensures.words in
    let same = ap (λ t. t.words) c.requires.same_table in omega arith

pub load-requires-clause-no_walk : goal.load-requires-clause-no_walk
load-requires-clause-no_walk c at = let it = c.requires.published in
    let above = row_above _ c.know.ensures.sound c.args.rebuild (Rebuild it.row) it.published in
    let from = c.from.ensures in absurd (omega arith)

pub returns-clause-seen : goal.returns-clause-seen
returns-clause-seen c = looked_goes_on _ _ _ _ c.load.ensures.looked

-- the word is a word of the row
pub returns-clause-field : goal.returns-clause-field
returns-clause-field c =
    looked_word _ _ _ _ c.load.ensures.looked c.args.rebuild c.args.offset c.requires.published
    c.requires.within (ap (λ n. n + c.args.offset) c.from.ensures)
