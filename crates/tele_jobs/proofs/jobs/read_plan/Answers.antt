use Rattle.std.proofs.Common.{ap, refl, ◌∙◌}
use Rattle.std.specs.Prelude.{Err}
use Rattle.tele_jobs.specs.declared.jobs.Plan.{Plan}
use Rattle.tele_jobs.proofs.JobLemmas.{makes, reads, refuses}
use Rattle.tele_jobs.proofs.jobs.read_plan.Goals as goal

-- the command line is accepted
pub returns-in-Some-clause-value : goal.returns-in-Some-clause-value
returns-in-Some-clause-value c = let met = c.in-Ok.ensures in
    ap (λ (p : Plan). p.job) c.plan_for.ensures.value
    ∙ makes _ c.in-Ok.options c.in-Some.count (met.taken refl) met.values c.in-Some.is

pub returns-in-None-clause-value : goal.returns-in-None-clause-value
returns-in-None-clause-value c = let met = c.in-Ok.ensures in
    ap (λ (p : Plan). p.job) c.plan_for-in-None.ensures.value
    ∙ reads _ c.in-Ok.options (met.taken refl) met.values c.in-None.is

-- the command line is refused
pub returns-in-Err-Usage-clause-value : goal.returns-in-Err-Usage-clause-value
returns-in-Err-Usage-clause-value c =
    refuses _ (c.in-Err-Usage.ensures.usage (ap Err c.in-Err-Usage.field-0-is))
