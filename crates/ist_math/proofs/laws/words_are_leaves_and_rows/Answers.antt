use Rattle.ist_core.proofs.AllWordLemmas.{ideal_words_is}
use Rattle.ist_math.proofs.laws.words_are_leaves_and_rows.Goals as goal

pub returns : goal.returns
returns c = record { sum = ideal_words_is }
