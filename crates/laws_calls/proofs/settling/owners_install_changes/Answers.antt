use Rattle.laws_links.proofs.StartingLemmas.{owner_known}
use Rattle.laws_calls.proofs.OwnLemmas.{change_since, others_none, own_change_stays}
use Rattle.laws_calls.proofs.settling.owners_install_changes.Goals as goal

pub returns : goal.returns
returns c = record {
  known = λ pairs words log l. owner_known pairs words log l.enabled;
  installed = λ pairs words earlier log l on. change_since pairs words earlier log on l.enabled;
  none = λ pairs words earlier log l caller later.
      others_none pairs words earlier log caller later l.enabled;
  resolved = λ pairs words earlier log l caller later.
      own_change_stays pairs words l.opens earlier caller log later l.enabled;
}
