use Rattle.laws_histories.proofs.ReadLemmas.{share_is_lawful, share_next, share_part, share_unset, share_unbuilt, share_contents}
use Rattle.laws_histories.proofs.examples.a_shared_root_is_lawful.Goals as goal

pub returns : goal.returns
returns c = record {
  lawful = share_is_lawful;
  next = share_next;
  part = share_part;
  unset = share_unset;
  unbuilt = share_unbuilt;
  contents = share_contents;
}
