use Rattle.laws_histories.proofs.ParentExampleLemmas.{left_refused_is_lawful, left_refused_contents, left_refused_slot, left_refused_changes}
use Rattle.laws_histories.proofs.UnseenExampleLemmas.{left_too_late_refused}
use Rattle.laws_histories.proofs.examples.a_finish_too_late_is_refused.Goals as goal

pub returns : goal.returns
returns c = record {
  lawful = left_refused_is_lawful;
  contents = left_refused_contents;
  slot = left_refused_slot;
  changes = left_refused_changes;
  too_late = left_too_late_refused;
}
