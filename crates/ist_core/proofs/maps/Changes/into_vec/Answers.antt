use Rattle.std.proofs.Common.{sym, ap, ◌∙◌}
use Rattle.std.specs.FinMap as fin
use Rattle.ist_core.proofs.EntryLemmas.{entries-from_sorted}
use Rattle.ist_core.proofs.maps.Changes.into_vec.Goals as goal

pub returns : goal.returns
returns c = record {
  value = sym (entries-from_sorted _ c.self.invariant) ∙ ap fin.entries c.self.view_is;
}
