use Rattle.tele_jobs.proofs.PassLemmas.{part_passed}
use Rattle.tele_io.proofs.OutcomeLemmas.{at_refusal}
use Rattle.tele_jobs.proofs.replies.end_with_summary.Goals as goal

-- what was printed stays taken if it isn't passed on
pub returns-clause-part : goal.returns-clause-part
returns-clause-part g c = at_refusal c.pass_on.result
    (part_passed _ _ _ _ c.in_ok-print_summary.ensures.printed c.pass_on.ensures.same)
