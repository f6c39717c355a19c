use Rattle.std.proofs.Common.{◌∙◌, sym, ap, arith}
use Rattle.ist_core.specs.WordTerms.{ref_of}
use Rattle.ist_core.proofs.AllWordLemmas.{ref_of-empty, ref_of-unset, ref_of-row}
use Rattle.ist_layout.proofs.references.Ref.from_word.Goals as goal

pub returns-in-0-clause-value : goal.returns-in-0-clause-value
returns-in-0-clause-value c = sym (ap ref_of c.in-0.is ∙ ref_of-empty)

pub returns-in-7-clause-value : goal.returns-in-7-clause-value
returns-in-7-clause-value c = sym (ap ref_of c.in-7.is ∙ ref_of-unset)

-- neither fixed word: the tag and the base decide
pub returns-in_default-clause-value : goal.returns-in_default-clause-value
returns-in_default-clause-value c = c.row.ensures.value ∙ sym
    (ref_of-row c.args.word (λ z. omega arith) (λ z. omega arith))
