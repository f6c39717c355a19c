use Rattle.std.proofs.Common.{◌+◌, ap, subst, arith}
use Rattle.ist_rule.specs.RuleTerms.{Looked}
use Rattle.ist_core.specs.WordTerms.{Inner}
use Rattle.ist_dcss.proofs.FieldLemmas.{row_low, row_above}
use Rattle.ist_mark.proofs.MarkLemmas.{mark_row}
use Rattle.ist_mark.proofs.statuses.own_word.Goals as goal

-- the row lies within the table
pub load-requires-clause-within : goal.load-requires-clause-within
load-requires-clause-within c =
    let it = mark_row _ c.know.ensures.sound c.args.node c.requires.may_mark.0 in
    let first = c.requires.first in
    let low = (row_low _ c.know.ensures.sound c.args.node (Inner it.0) it.1 c.args.offset
    (omega arith)).0 in
    let from = c.from.ensures in let known = c.know.ensures.words in
    let same = ap (λ t. t.words) c.requires.may_mark.1 in omega arith

pub load-requires-clause-no_walk : goal.load-requires-clause-no_walk
load-requires-clause-no_walk c at =
    let it = mark_row _ c.know.ensures.sound c.args.node c.requires.may_mark.0 in
    let above = row_above _ c.know.ensures.sound c.args.node (Inner it.0) it.1 in
    let from = c.from.ensures in absurd (omega arith)

pub returns : goal.returns
returns c = record {
  looked = subst
      (λ n. Looked c.args.token.now.view (n + c.args.offset) c.load.result
      c.load.new.token.view)
      c.from.ensures c.load.ensures.looked;
}
