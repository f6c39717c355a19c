use Rattle.std.proofs.Common.{◌∙◌, sym}
use Rattle.tele_lines.specs.Lines.{is_blank}
use Rattle.tele_lines.proofs.FirstLemmas.{first_place}
use Rattle.tele_lines.proofs.WordLemmas.{words-first}
use Rattle.tele_lines.proofs.words.word_len.Goals as goal

-- the word ends at the first blank
pub returns-clause-first : goal.returns-clause-first
returns-clause-first c =
    words-first c.args.bytes.now _ (first_place is_blank c.args.bytes.now c.memchr2.result c.memchr2.ensures ∙ sym c.unwrap_or.ensures)
    c.requires.word c.requires.some
