use Rattle.laws_histories.proofs.ChangeLemmas.{at_prefix, load_on, look_on, come_on, end_on}
use Rattle.laws_histories.proofs.laws.searches_go_on.Goals as goal

pub returns : goal.returns
returns c = record {
  prefix = λ prefix log on. at_prefix prefix log on;
  load = λ pairs words log longer on place least load is. load_on pairs words log longer on place least load is;
  look = λ pairs words log longer on key least last node ref look. look_on pairs words log longer on key least last node ref look;
  come = λ pairs words log longer on key began last node comes. come_on pairs words log longer on key began last node comes;
  end = λ pairs words log longer on key began node value ends. end_on pairs words log longer on key began node value ends;
}
