use Rattle.tele_audit.proofs.LawLemmas.{no_flaw, one_flaw}
use Rattle.tele_audit.proofs.laws.lawful_dumps_have_no_flaw.Goals as goal

pub returns : goal.returns
returns c = record {
  none = λ bytes told flaw h. no_flaw bytes told h c.lawful_words_break_nowhere.ensures.nowhere
      flaw;
  one = one_flaw c.lawful_words_break_nowhere.ensures.one;
}
