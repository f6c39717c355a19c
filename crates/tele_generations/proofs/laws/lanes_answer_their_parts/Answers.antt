use Rattle.tele_generations.proofs.RunLemmas.{done_plain, done_leads}
use Rattle.tele_generations.proofs.WholeLemmas.{whole_plain, nothing_left}
use Rattle.tele_generations.proofs.laws.lanes_answer_their_parts.Goals as goal

pub returns-clause-done : goal.returns-clause-done
returns-clause-done c = done_plain

pub returns-clause-leaves : goal.returns-clause-leaves
returns-clause-leaves c = done_leads

pub returns-clause-whole : goal.returns-clause-whole
returns-clause-whole c = whole_plain

pub returns-clause-nothing_left : goal.returns-clause-nothing_left
returns-clause-nothing_left c = nothing_left
