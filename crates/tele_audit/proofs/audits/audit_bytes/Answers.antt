use Rattle.std.proofs.Common.{◌∙◌, sym}
use Rattle.tele_audit.proofs.ReadLemmas.{AreRead, words_read, read_long, read_bounds, read_lawfully, read_broken, lawful_pairs_rise}
use Rattle.tele_audit.proofs.audits.audit_bytes.Goals as goal
use Rattle.tele_audit.proofs.audits.audit_bytes.Goals.{After-know_fit}

-- the words that were read are those that the bytes encode
read : (c : After-know_fit) → AreRead c.args.bytes.items c.number_at-used.result c.of-words.result
read c = words_read _ _ _ _ c.requires.head c.requires.whole c.as_slice-2.ensures.value
    c.number_at-used.ensures.value c.of-words.ensures.value

pub word-requires : goal.word-requires
word-requires c = record { within = read_long (read (goal.at.word-requires c).After-know_fit) }

pub audit_words-requires : goal.audit_words-requires
audit_words-requires c = record {
  bounds = read_bounds (read (goal.at.audit_words-requires c).After-know_fit)
      (sym c.word.ensures.value ∙ c.if-word-ne0.false);
}

-- the pairs of lawful words have strictly increasing keys
pub of-requires : goal.of-requires
of-requires c = record {
  rising = lawful_pairs_rise _ _ (rw c.in-Ok-Ok.field-0-is at c.in-Ok-Ok.ensures.sound);
}

pub returns-in-Ok-Ok-clause-lawful : goal.returns-in-Ok-Ok-clause-lawful
returns-in-Ok-Ok-clause-lawful c = let here = goal.at.returns-in-Ok-Ok-clause-lawful c in
    read_lawfully (read here.After-know_fit) c.zeros_change_nothing.ensures.nothing
    (rw c.as_slice-3.ensures.value at c.know_bytes.ensures.bytes) c.know_fit.ensures.fit _ _
    (rw c.as_slice.ensures.value at c.number_at-count.ensures.value)
    (rw (sym c.of.ensures.value) at (rw c.in-Ok-Ok.field-0-is at c.in-Ok-Ok.ensures.sound))

pub returns-in-Ok-Err-clause-flaw : goal.returns-in-Ok-Err-clause-flaw
returns-in-Ok-Err-clause-flaw c flaw e =
    read_broken (read (goal.at.returns-in-Ok-Err-clause-flaw c).After-know_fit)
    c.zeros_change_nothing.ensures.nothing (sym c.word.ensures.value ∙ c.if-word-ne0.false)
    c.in-Ok-Err.place (rw c.in-Ok-Err.field-0-is at c.in-Ok-Err.ensures.broken) flaw cc
