use Rattle.ist_core.proofs.UnderLemmas as leaves
use Rattle.ist_core.proofs.laws.contents_are_one.Goals as goal

pub returns : goal.returns
returns c = record { one = leaves.contents_are_one }
