use Rattle.std.proofs.Common.{of_calls, rules, sym, ◌∙◌, subst}
use Rattle.std.specs.Prelude.{IfSome}
use Rattle.tele_jobs.specs.Causes.{ReadsSparingly}
use Rattle.tele_jobs.proofs.JobLemmas.{by_reading, reads_failed, reports_usage}
use Rattle.tele_jobs.proofs.ReadingLemmas.{reads_none}
use Rattle.tele_run.proofs.runs.run.Goals as goal

-- the closure runs what a round has left on a tree
pub work-requires-clause-tables : goal.work-requires-clause-tables
work-requires-clause-tables g c = record {
  may_run = λ tables way workers steal may. search rules;
  ran = λ tables way workers steal result ends. search of_calls;
}

-- what a run over lines read and wrote
pub returns-in-Ok-clause-text : goal.returns-in-Ok-clause-text
returns-in-Ok-clause-text g c is = (c.work.ensures.lines (c.in-Ok.ensures.value ∙ is)).text

pub returns-in-Ok-clause-status : goal.returns-in-Ok-clause-status
returns-in-Ok-clause-status g c is = (c.work.ensures.lines (c.in-Ok.ensures.value ∙ is)).answers

pub returns-in-Ok-clause-whole : goal.returns-in-Ok-clause-whole
returns-in-Ok-clause-whole g c is = (c.work.ensures.lines (c.in-Ok.ensures.value ∙ is)).whole

pub returns-in-Ok-clause-reached : goal.returns-in-Ok-clause-reached
returns-in-Ok-clause-reached g c is = (c.work.ensures.lines (c.in-Ok.ensures.value ∙ is)).reached

pub returns-in-Ok-clause-part : goal.returns-in-Ok-clause-part
returns-in-Ok-clause-part g c is = (c.work.ensures.lines (c.in-Ok.ensures.value ∙ is)).part

-- only a run over lines ends with a failed read
pub returns-in-Ok-clause-stops : goal.returns-in-Ok-clause-stops
returns-in-Ok-clause-stops g c is =
    (c.work.ensures.lines (reads_failed _ _ c.work.ensures.statuses is)).stops is

-- the others read nothing
pub returns-in-Ok-clause-sparing : goal.returns-in-Ok-clause-sparing
returns-in-Ok-clause-sparing g c =
    by_reading c.in-Ok.plan.job (λ is. (c.work.ensures.lines is).sparing)
    (λ other. subst (λ now. IfSome (g.S.Source.left c.args.source.now)
    (λ bytes. ReadsSparingly bytes (g.S.Source.left now)))
    (sym (c.work.ensures.unread other)) (reads_none _))

pub returns-in-Err-clause-sparing : goal.returns-in-Err-clause-sparing
returns-in-Err-clause-sparing g c = reads_none _

-- what the others wrote
pub returns-in-Ok-clause-usage : goal.returns-in-Ok-clause-usage
returns-in-Ok-clause-usage g c is =
    (c.work.ensures.usage (reports_usage _ _ c.work.ensures.statuses is)).whole is

pub returns-in-Ok-clause-usage_part : goal.returns-in-Ok-clause-usage_part
returns-in-Ok-clause-usage_part g c is = (c.work.ensures.usage (c.in-Ok.ensures.value ∙ is)).part

pub returns-in-Ok-clause-made : goal.returns-in-Ok-clause-made
returns-in-Ok-clause-made g c count seed is =
    (c.work.ensures.made count seed (c.in-Ok.ensures.value ∙ is)).whole

pub returns-in-Ok-clause-made_part : goal.returns-in-Ok-clause-made_part
returns-in-Ok-clause-made_part g c count seed is =
    (c.work.ensures.made count seed (c.in-Ok.ensures.value ∙ is)).part
