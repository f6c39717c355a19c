use Rattle.laws_histories.proofs.PositionLemmas.{search_position, search_added}
use Rattle.laws_histories.proofs.laws.searches_have_a_position.Goals as goal

pub returns : goal.returns
returns c = record {
  position = λ pairs words log lawful key began node value x. search_position pairs words lawful.opens log lawful.enabled key began node value x;
  stand = λ pairs words seen log lawful number stamp calls has none began node since command value plain x.
      search_added pairs words lawful.opens log lawful.enabled seen number stamp calls has none began node since command value plain x;
}
