use Rattle.std.proofs.Common.{◌∙◌, sym, ap, arith}
use Rattle.ist_core.specs.WordTerms.{status_of}
use Rattle.ist_core.proofs.AllWordLemmas.{status_of-open, status_of-marked, status_of-finished, status_of-none}
use Rattle.ist_layout.proofs.statuses.Status.from_word.Goals as goal

pub returns-in-0-clause-value : goal.returns-in-0-clause-value
returns-in-0-clause-value c = sym (ap status_of c.in-0.is ∙ status_of-open)

pub returns-in-1-clause-value : goal.returns-in-1-clause-value
returns-in-1-clause-value c = sym (ap status_of c.in-1.is ∙ status_of-marked)

pub returns-in_default-clause-value : goal.returns-in_default-clause-value
returns-in_default-clause-value c = sym (status_of-finished c.args.word c.if-word-eq3.true
    (omega arith))

-- three above a multiple of four, but with too many keys
pub returns-in_default-2-clause-value : goal.returns-in_default-2-clause-value
returns-in_default-2-clause-value c = sym (status_of-none c.args.word (λ z. omega arith)
    (λ z. omega arith) (λ z. omega arith))

-- no status has such a word
pub returns-in_default-2-2-clause-value : goal.returns-in_default-2-2-clause-value
returns-in_default-2-2-clause-value c = sym (status_of-none c.args.word (λ z. omega arith)
    (λ z. omega arith) (λ z. absurd (c.if-word-eq3.false z)))
