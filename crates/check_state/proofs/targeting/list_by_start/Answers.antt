use Rattle.check_fairness.proofs.TargetLemmas.{lists_stay}
use Rattle.std.proofs.lemmas.Result.{on_ok_weaker}
use Rattle.check_state.specs.Remembered.{StartsFinished}
use Rattle.check_state.proofs.ListingLemmas.{gains_one}
use Rattle.check_state.proofs.targeting.list_by_start.Goals as goal

pub returns-in-None : goal.returns-in-None
returns-in-None c = record {
  exact = λ t u mirrors gains known.
      lists_stay t u (StartsFinished t c.args.change) gains c.args.building.now
      (λ k starts. absurd (c.in-None.ensures.exact t mirrors k starts)) known;
}

pub returns-in-Some : goal.returns-in-Some
returns-in-Some c = record {
  exact = on_ok_weaker c.add_keys.result
      (λ adds t u mirrors gains known. adds t u
      (gains_one t u (StartsFinished t c.args.change) c.in-Some.keys
      (c.in-Some.ensures.exact t mirrors) gains) known)
      c.add_keys.ensures.exact;
}
