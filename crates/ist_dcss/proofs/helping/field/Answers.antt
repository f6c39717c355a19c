use Rattle.std.proofs.Common.{◌+◌, ap, arith}
use Rattle.ist_core.specs.WordTerms.{Change}
use Rattle.ist_rule.proofs.WentOnLemmas.{looked_went}
use Rattle.ist_rule.proofs.ExchangeLemmas.{looked_keeps}
use Rattle.ist_dcss.specs.Helping.{Serves}
use Rattle.ist_dcss.proofs.FieldLemmas.{row_low, row_above, looked_field}
use Rattle.ist_dcss.proofs.helping.field.Goals as goal

-- the row lies within the table
pub load-requires-clause-within : goal.load-requires-clause-within
load-requires-clause-within c = let m = c.requires.may_help in
    let low = (row_low _ c.know.ensures.sound c.args.change (Change m.row) m.installed c.args.offset
    c.requires.within).0 in
    let from = c.from.ensures in let known = c.know.ensures.words in
    let same = ap (λ t. t.words) c.requires.same_table in omega arith

pub load-requires-clause-no_walk : goal.load-requires-clause-no_walk
load-requires-clause-no_walk c at = let m = c.requires.may_help in
    let above = row_above _ c.know.ensures.sound c.args.change (Change m.row) m.installed in
    let from = c.from.ensures in absurd (omega arith)

pub returns-clause-went : goal.returns-clause-went
returns-clause-went c = looked_went (Serves c.args.change) _ _ _ _ c.load.ensures.looked

pub returns-clause-search : goal.returns-clause-search
returns-clause-search c = looked_keeps _ _ _ _ c.load.ensures.looked

pub returns-clause-field : goal.returns-clause-field
returns-clause-field c =
    looked_field _ _ _ _ c.load.ensures.looked c.args.change c.args.offset c.requires.may_help
    c.requires.within (ap (λ n. n + c.args.offset) c.from.ensures)
