use Rattle.laws_calls.proofs.PartLemmas.{keys_next, part_is, parts_all, parts_next}
use Rattle.laws_calls.proofs.rows.parts_are_shares.Goals as goal

pub returns : goal.returns
returns c = record { share = part_is; next = parts_next; all = parts_all; keys = keys_next }
