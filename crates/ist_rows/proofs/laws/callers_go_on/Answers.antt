use Rattle.ist_rows.proofs.CallerLawLemmas.{caller_went, refused_went, resolved_went}
use Rattle.ist_rows.proofs.laws.callers_go_on.Goals as goal

pub returns : goal.returns
returns c = record {
  caller = λ who token k g. caller_went who token k g;
  refused = λ who token k r g. refused_went who token k r g;
  resolved = λ v w number mine all g. resolved_went v w number mine all g;
}
