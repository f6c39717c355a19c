use Rattle.std.proofs.Common.{ap, sym, subst}
use Rattle.tele_lines.specs.Answer.{usage_text}
use Rattle.tele_jobs.specs.declared.outcomes.Outcome.{Outcome}
use Rattle.tele_jobs.specs.Summaries.{summary_of, summary_text}
use Rattle.tele_jobs.specs.declared.outcomes.TheConstants.{ANSWERED, USAGE}
use Rattle.tele_jobs.specs.Causes.{WritesText}
use Rattle.tele_jobs.proofs.JobLemmas.{of_same_lines}
use Rattle.tele_jobs.proofs.works.work.Goals as goal

-- the summary was written, or a part of it
pub returns-in-Make-clause-made : goal.returns-in-Make-clause-made
returns-in-Make-clause-made g c count seed is =
    of_same_lines (λ n s. WritesText ANSWERED (summary_text (summary_of n s))
    (g.O.Sink.written c.args.out.now) (g.O.Sink.written c.make_all.new.out)
    c.make_all.result.status)
    c.args.plan.job c.in-Make.count c.in-Make.seed count seed c.in-Make.is is
    (record { whole = c.make_all.ensures.text; part = c.make_all.ensures.part })

-- the line that says so was written, or a part of it
pub returns-in-Refuse-clause-usage : goal.returns-in-Refuse-clause-usage
returns-in-Refuse-clause-usage g c is =
    subst (WritesText USAGE usage_text (g.O.Sink.written c.args.out.now)
    (g.O.Sink.written c.refuse.new.out))
    (sym (ap (λ (o : Outcome). o.status) c.without_table.ensures.value))
    (record { whole = c.refuse.ensures.usage; part = c.refuse.ensures.part })
