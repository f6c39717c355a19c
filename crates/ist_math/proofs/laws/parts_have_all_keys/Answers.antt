use Rattle.ist_core.proofs.AllWordLemmas.{sum-part_lens, part_len-pos}
use Rattle.ist_math.proofs.laws.parts_have_all_keys.Goals as goal

pub returns-clause-sum : goal.returns-clause-sum
returns-clause-sum c = sum-part_lens

pub returns-clause-some : goal.returns-clause-some
returns-clause-some c = part_len-pos
