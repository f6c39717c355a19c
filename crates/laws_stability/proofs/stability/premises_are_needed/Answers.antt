use Rattle.ist_core.specs.LogTerms.{state_of}
use Rattle.ist_core.specs.WordTerms.{start}
use Rattle.ist_core.proofs.AllLogLemmas.{grow_between}
use Rattle.laws_stability.proofs.FoundWordLemmas as needs
use Rattle.laws_stability.proofs.stability.premises_are_needed.Goals as goal

pub returns : goal.returns
returns c = record {
  word = λ pairs words earlier log event l on old now adds touches.
      needs.word_needed pairs words l.opens earlier log on l.enabled event old now adds touches;
  install = λ pairs words earlier log l on caller base rows can change is.
      needs.none_refused (start pairs words) (state_of pairs words earlier) log caller base rows
      (grow_between pairs words earlier log l.enabled on) can change is;
  okay = λ pairs words log l caller base can. needs.undecided_needed
      (state_of pairs words log) caller base can;
  pass = λ pairs words log l caller node i word can.
      needs.mark_needed (state_of pairs words log) caller node i word can;
}
