-- What was refused to the tree's call was refused to the pass.
use Rattle.ist_map.proofs.RefusalLemmas.{update_refused, rebuild_refused}
use Rattle.ist_map.proofs.scripts.call.Goals as goal

pub returns-in-Put-clause-full : goal.returns-in-Put-clause-full
returns-in-Put-clause-full c = update_refused _ _ _ _ _ c.put.ensures.turned_away

pub returns-in-Put-clause-refused : goal.returns-in-Put-clause-refused
returns-in-Put-clause-refused c = rebuild_refused _ _ c.put.ensures.worked.refused

pub returns-in-Remove-clause-full : goal.returns-in-Remove-clause-full
returns-in-Remove-clause-full c = update_refused _ _ _ _ _ c.remove.ensures.turned_away

pub returns-in-Remove-clause-refused : goal.returns-in-Remove-clause-refused
returns-in-Remove-clause-refused c = rebuild_refused _ _ c.remove.ensures.worked.refused
