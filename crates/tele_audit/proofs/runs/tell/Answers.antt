use Rattle.std.proofs.Common.{ap, Err}
use Rattle.tele_audit.specs.declared.jobs.Job.TheVariants.{Tell}
use Rattle.tele_audit.specs.declared.outcomes.TheConstants.{DONE, FLAWED}
use Rattle.tele_audit.specs.Runs.{flaw_text}
use Rattle.tele_audit.proofs.RunLemmas.{writes_if, part_if, answer_due, flaw_due, same_flaw, same_flaw_part}
use Rattle.tele_audit.proofs.runs.tell.Goals as goal

-- a part of the answer was written
pub returns-in-Ok-clause-part : goal.returns-in-Ok-clause-part
returns-in-Ok-clause-part g c = part_if (Tell c.args.question) (g.O.Sink.written c.args.out.now)
    (g.O.Sink.written c.write_answer.new.out) _ DONE (g.S.Source.left c.args.source.now)
    (answer_due (g.S.Source.left c.args.source.now) c.args.question c.in-Ok.told
    c.in-Ok.ensures.lawful)
    c.in-Err.ensures.part

-- the flaw was named
pub returns-in-Ok-write_flaw-clause-text : goal.returns-in-Ok-write_flaw-clause-text
returns-in-Ok-write_flaw-clause-text g c = let bad = c.in-Err-Bad in
    writes_if (Tell c.args.question) (g.O.Sink.written c.args.out.now)
    (g.O.Sink.written c.write_flaw.new.out) (flaw_text bad.flaw) FLAWED
    (g.S.Source.left c.args.source.now)
    (flaw_due (g.S.Source.left c.args.source.now) c.args.question bad.flaw
    (bad.ensures.flaw bad.flaw (ap Err bad.field-0-is)))
    (same_flaw _ _ _ bad.flaw bad.flaw-is c.in-Ok-write_flaw.ensures.printed)

-- or a part of its name
pub returns-in-Err-Bad-clause-part : goal.returns-in-Err-Bad-clause-part
returns-in-Err-Bad-clause-part g c = let bad = c.in-Err-Bad in
    part_if (Tell c.args.question) (g.O.Sink.written c.args.out.now)
    (g.O.Sink.written c.write_flaw.new.out) (flaw_text bad.flaw) FLAWED
    (g.S.Source.left c.args.source.now)
    (flaw_due (g.S.Source.left c.args.source.now) c.args.question bad.flaw
    (bad.ensures.flaw bad.flaw (ap Err bad.field-0-is)))
    (same_flaw_part _ _ _ bad.flaw bad.flaw-is c.in-Err-write_flaw.ensures.part)
