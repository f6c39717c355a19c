use Rattle.check_fairness.proofs.AnswerLemmas.{never}
use Rattle.check_events.proofs.KindLemmas.{names_is, names_none}
use Rattle.check_events.proofs.kinds.names_leaf_of.Goals as goal

pub returns-in-None-leaf_key : goal.returns-in-None-leaf_key
returns-in-None-leaf_key c = record {
  exact = λ t h. never (names_none t c.args.word c.in-Some.leaf c.in-Some.ensures.exact.0
      c.args.key (c.in-None-leaf_key.ensures.exact t h));
}

pub returns-in-Some-leaf_key : goal.returns-in-Some-leaf_key
returns-in-Some-leaf_key c = record {
  exact = λ t h. let found = c.in-Some-leaf_key.ensures.exact t h in
      names_is t c.args.word c.in-Some.leaf c.in-Some.ensures.exact.0 c.in-Some-leaf_key.found
      c.args.key found.0 found.1;
}
