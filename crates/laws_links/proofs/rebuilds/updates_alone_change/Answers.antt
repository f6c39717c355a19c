use Rattle.laws_links.proofs.ContentLemmas.{contents_exist, contents_same, linked_set}
use Rattle.laws_links.proofs.rebuilds.updates_alone_change.Goals as goal

pub returns : goal.returns
returns c = record {
  exist = λ pairs words log l. contents_exist pairs words l.opens log l.enabled;
  kept = λ pairs words log event l keeps contents. contents_same pairs words l.opens log event l.enabled keeps contents;
  set = λ pairs words log l. linked_set pairs words l.opens log l.enabled;
}
