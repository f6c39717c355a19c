use Rattle.std.proofs.Common.{length}
use Rattle.ist_core.specs.TreeTerms.{pairs_of}
use Rattle.laws_histories.specs.Telling.{map_now}
use Rattle.laws_histories.proofs.ContentLemmas.{contents_at}
use Rattle.ist_rest.proofs.StandingLemmas.{lawful_contents}
use Rattle.ist_rest.proofs.WholeLemmas.{hold_map, stood}
use Rattle.ist_rest.proofs.laws.standing_words_hold_the_map.Goals as goal

pub returns : goal.returns
returns c = record {
  hold = λ words pairs told s. hold_map words pairs told s;
  lawful = λ words pairs told s. lawful_contents (stood words pairs told s)
      (pairs_of (map_now pairs (length words) s.log))
      (contents_at pairs (length words) s.lawful.opens s.log s.lawful.enabled);
}
