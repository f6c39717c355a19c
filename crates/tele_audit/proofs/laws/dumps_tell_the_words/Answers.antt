use Rattle.tele_audit.proofs.LawLemmas.{one_told, listed_is}
use Rattle.tele_audit.proofs.laws.dumps_tell_the_words.Goals as goal

pub returns : goal.returns
returns c = record {
  one = one_told c.pairs_are_one.ensures.one;
  listed = listed_is c.pairs_are_one.ensures.one;
}
