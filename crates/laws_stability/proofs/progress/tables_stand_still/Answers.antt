use Rattle.laws_stability.proofs.OwnLemmas.{child_open, open_stands, slots_stand}
use Rattle.laws_stability.proofs.progress.tables_stand_still.Goals as goal

pub returns : goal.returns
returns c = record {
  slots = λ pairs words earlier log l. slots_stand pairs words l.opens earlier log l.enabled;
  nodes = λ pairs words earlier log l. open_stands pairs words l.opens earlier log l.enabled;
  children = λ pairs words log l. child_open pairs words l.opens log l.enabled;
}
