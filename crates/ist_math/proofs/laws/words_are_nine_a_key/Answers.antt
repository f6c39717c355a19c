use Rattle.ist_core.proofs.AllWordLemmas.{ideal_words_nine}
use Rattle.ist_math.proofs.laws.words_are_nine_a_key.Goals as goal

pub returns : goal.returns
returns c = record { most = ideal_words_nine }
