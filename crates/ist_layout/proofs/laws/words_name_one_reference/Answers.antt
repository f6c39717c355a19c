use Rattle.ist_core.proofs.AllWordLemmas.{ref_of-word_of, word_of-ref_of}
use Rattle.ist_layout.proofs.laws.words_name_one_reference.Goals as goal

pub returns-clause-read_back : goal.returns-clause-read_back
returns-clause-read_back c = ref_of-word_of

pub returns-clause-good : goal.returns-clause-good
returns-clause-good c = λ word ref e. (word_of-ref_of word ref e).good

pub returns-clause-same_word : goal.returns-clause-same_word
returns-clause-same_word c = λ word ref e. (word_of-ref_of word ref e).same_word
