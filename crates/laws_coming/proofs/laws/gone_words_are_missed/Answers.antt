use Rattle.laws_coming.proofs.KnownLemmas.{in_piece, fast_known, open_gone, mark_gone}
use Rattle.laws_coming.proofs.laws.gone_words_are_missed.Goals as goal

pub returns-clause-known : goal.returns-clause-known
returns-clause-known c v s base p e k less = fast_known v _ (in_piece base k p e less)

pub returns-clause-open_word : goal.returns-clause-open_word
returns-clause-open_word c v s node row e shut = open_gone v node row e shut

pub returns-clause-marked_word : goal.returns-clause-marked_word
returns-clause-marked_word c v s node k row e is = mark_gone v node k row e is
