use Rattle.ist_core.proofs.EntryLemmas.{is_sorted-rising, entries-from_sorted}
use Rattle.ist_core.proofs.maps.Rebuilds.from_vec.Goals as goal

pub invariant_of-result : goal.invariant_of-result
invariant_of-result c = is_sorted-rising _ c.requires.rising

pub returns : goal.returns
returns c = record { value = entries-from_sorted _ (is_sorted-rising _ c.requires.rising) }
