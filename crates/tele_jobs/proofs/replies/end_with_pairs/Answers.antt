use Rattle.tele_io.proofs.KeepsLemmas.{appends_keeps}
use Rattle.tele_io.proofs.OutcomeLemmas.{at_ok, at_refusal}
use Rattle.tele_jobs.proofs.PassLemmas.{part_passed}
use Rattle.tele_jobs.proofs.replies.end_with_pairs.Goals as goal

-- what was printed stays taken, whether it is passed on or not
pub returns-clause-printed : goal.returns-clause-printed
returns-clause-printed g c =
    at_ok c.pass_on.result (appends_keeps _ _ _ _ c.in_ok-print_interval.ensures.printed c.pass_on.ensures.same)

pub returns-clause-part : goal.returns-clause-part
returns-clause-part g c = at_refusal c.pass_on.result
    (part_passed _ _ _ _ c.in_ok-print_interval.ensures.printed c.pass_on.ensures.same)

-- if printing fails, a part was printed
pub returns-in_err-print_interval-clause-part : goal.returns-in_err-print_interval-clause-part
returns-in_err-print_interval-clause-part g c = at_refusal c.from_residual.result c.in_err-print_interval.ensures.part
