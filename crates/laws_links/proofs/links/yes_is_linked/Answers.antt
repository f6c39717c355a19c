use Rattle.laws_links.proofs.LinkLemmas as links
use Rattle.laws_links.proofs.links.yes_is_linked.Goals as goal

pub returns : goal.returns
returns c = record {
  linked = λ pairs words log caller base l change e. (
    links.yes_linked pairs words l.opens log caller base l.enabled change e,
    links.yes_linked_after pairs words l.opens log caller base l.enabled change e,
  );
  unpassed = λ pairs words log l. links.okayed_unpassed pairs words l.opens log l.enabled;
  refused = λ pairs words earlier log l on base before change e none unlinked there.
      links.unlinked_refused pairs words l.opens earlier log on l.enabled base before e none unlinked change there;
}
