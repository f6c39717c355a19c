use Rattle.laws_histories.proofs.EntryLemmas.{update_entry, entry_update, entries_change}
use Rattle.laws_histories.proofs.ItemLemmas.{entries_once, entries_of_one}
use Rattle.laws_histories.proofs.laws.updates_are_entries.Goals as goal

pub returns : goal.returns
returns c = record {
  entry = λ pairs words log lawful base change command e said is. update_entry pairs words lawful.opens log lawful.enabled base change command e said is;
  update = λ pairs words log lawful position entry e. entry_update pairs words lawful.opens log lawful.enabled position entry e;
  once = λ pairs words log lawful base p q x y. entries_once pairs words lawful.opens log lawful.enabled base p q x y;
  of_one = λ pairs words log lawful position base other x y. entries_of_one pairs words lawful.opens log lawful.enabled position base other x y;
  change = λ pairs words log lawful. entries_change pairs words lawful.opens log lawful.enabled;
}
