use Rattle.ist_rows.proofs.CallerLawLemmas.{logged_made, loaded_made, caller_made, refused_made}
use Rattle.ist_rows.proofs.laws.given_rows_go.Goals as goal

pub returns : goal.returns
returns c = record {
  given = λ old new kinds event bases k l its gives a out.
      caller_made old new kinds event bases k l.before (logged_made _ event _ l) its gives a out;
  lost = λ old new kinds event bases place word k l its gives a out.
      caller_made old new kinds event bases k l.before (loaded_made _ event place word _ l) its
      gives a out;
  refused = λ old new kinds event bases k r l its gives a out.
      refused_made old new kinds event bases k l.before (logged_made _ event _ l) its gives a out r;
}
