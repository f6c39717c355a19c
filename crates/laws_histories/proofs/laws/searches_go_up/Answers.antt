use Rattle.laws_histories.proofs.LoadLemmas.{slot_load}
use Rattle.laws_histories.proofs.PositionLemmas.{node_met, look_up}
use Rattle.laws_histories.proofs.laws.searches_go_up.Goals as goal

pub returns : goal.returns
returns c = record {
  met = λ pairs words log lawful key began last node since comes. node_met pairs words lawful.opens log lawful.enabled key began last node comes;
  held = λ pairs words log lawful key least node index slot child load. slot_load pairs words lawful.opens log lawful.enabled key least node index slot child load;
  up = λ pairs words log lawful key began least last node child since comes look. look_up pairs words lawful.opens log lawful.enabled key began least last node child comes look;
}
