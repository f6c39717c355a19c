use Rattle.laws_real_time.proofs.KeepLemmas.{kept_on, begins_keep, returns_keep, gives_up_keeps, kept_linearizes}
use Rattle.laws_real_time.proofs.laws.kept_calls_are_linearizable.Goals as goal

pub returns : goal.returns
returns c = record {
  longer = kept_on;
  begins = begins_keep;
  returns = returns_keep;
  gives_up = gives_up_keeps;
  linearizable = kept_linearizes;
}
