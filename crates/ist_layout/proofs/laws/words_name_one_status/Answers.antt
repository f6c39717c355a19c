use Rattle.ist_core.proofs.AllWordLemmas.{status_of-open, status_of-marked, status_of-finished_word, status_word-status_of}
use Rattle.ist_layout.proofs.laws.words_name_one_status.Goals as goal

pub returns-clause-open : goal.returns-clause-open
returns-clause-open c = status_of-open

pub returns-clause-marked : goal.returns-clause-marked
returns-clause-marked c = status_of-marked

pub returns-clause-finished : goal.returns-clause-finished
returns-clause-finished c = status_of-finished_word

pub returns-clause-same_word : goal.returns-clause-same_word
returns-clause-same_word c = status_word-status_of
