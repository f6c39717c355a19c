use Rattle.laws_links.proofs.FinishedLemmas.{finished_slot}
use Rattle.laws_calls.proofs.FinishLemmas.{finished_rise, stays_set, was_linked_rise, was_linked_set}
use Rattle.laws_calls.proofs.NumberLemmas.{finished_few}
use Rattle.laws_calls.proofs.rows.finished_rows_are_known.Goals as goal

pub returns : goal.returns
returns c = record {
  set = λ pairs words log l. was_linked_set pairs words l.opens log l.enabled;
  stays_set = λ pairs words earlier log l on.
      stays_set pairs words l.opens earlier log on l.enabled;
  passed = λ pairs words log l node i word f slot.
      (let it = finished_slot pairs words log l.enabled node i word f slot in
      (it.word, it.passed));
  linked_rise = λ pairs words log l. was_linked_rise pairs words l.opens log l.enabled;
  rise = λ pairs words log l. finished_rise pairs words l.opens log l.enabled;
  few = λ pairs words log l node k f.
      finished_few pairs words l.opens log l.enabled node k f.row f.published f.status;
}
