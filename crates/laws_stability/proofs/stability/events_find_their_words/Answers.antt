use Rattle.ist_core.proofs.AllLogLemmas.{one_word}
use Rattle.laws_stability.proofs.FoundWordLemmas.{finds_own}
use Rattle.laws_stability.proofs.stability.events_find_their_words.Goals as goal

pub returns : goal.returns
returns c = record {
  one = λ pairs size log l. one_word pairs size log l.enabled;
  found = λ pairs size log event l can k. finds_own pairs size l.opens log l.enabled event can k;
}
