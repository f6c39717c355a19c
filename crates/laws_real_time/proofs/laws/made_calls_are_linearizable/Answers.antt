use Rattle.laws_real_time.proofs.AccountLemmas.{accounted_linearizes}
use Rattle.laws_real_time.proofs.laws.made_calls_are_linearizable.Goals as goal

pub returns : goal.returns
returns c = record { linearizable = λ m entries moments all. (accounted_linearizes m entries moments all).linear }
