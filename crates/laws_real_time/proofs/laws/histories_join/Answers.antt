use Rattle.laws_real_time.proofs.OrderLemmas.{linearizes}
use Rattle.laws_real_time.proofs.JoinLemmas.{histories_join}
use Rattle.laws_real_time.proofs.ShiftLemmas.{calls_both}
use Rattle.laws_real_time.proofs.laws.histories_join.Goals as goal

pub returns : goal.returns
returns c = record { leads = linearizes; join = histories_join; calls = calls_both }
