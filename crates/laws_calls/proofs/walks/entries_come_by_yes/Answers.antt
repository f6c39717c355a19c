use Rattle.std.proofs.Common.{◌∙◌}
use Rattle.laws_calls.proofs.AcceptedLemmas.{no_entry_no_yes, no_yes_no_entry, resolved_no_entry, installed_no_entry}
use Rattle.laws_calls.proofs.walks.entries_come_by_yes.Goals as goal

pub returns : goal.returns
returns c = record {
  yes = λ pairs words earlier log l on number. (
    no_entry_no_yes pairs words l.opens earlier log on l.enabled number,
    no_yes_no_entry pairs words l.opens earlier log on l.enabled number,
  );
  resolved = λ pairs words earlier log l on number.
      resolved_no_entry pairs words l.opens earlier log on l.enabled number;
  installed = λ pairs words earlier log l.
      installed_no_entry pairs words l.opens earlier log l.enabled;
  join = λ pairs words first second third number a b. b ∙ a;
}
