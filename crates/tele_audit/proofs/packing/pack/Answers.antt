use Rattle.std.proofs.Common.{ap, Err}
use Rattle.std.proofs.lemmas.Result.{on_err_weaker}
use Rattle.tele_audit.specs.declared.jobs.Job.TheVariants.{Pack}
use Rattle.tele_audit.specs.declared.outcomes.TheConstants.{DONE, BAD_LINE}
use Rattle.tele_audit.proofs.RunLemmas.{writes_if, part_if, packed_due, bad_due, done_text, same_bad, same_bad_part}
use Rattle.tele_audit.proofs.packing.pack.Goals as goal

-- the dump was written
pub returns-in-Ok-lay-clause-text : goal.returns-in-Ok-lay-clause-text
returns-in-Ok-lay-clause-text g c =
    let due = packed_due _ _ _ c.in-Ok.ensures.left c.in-Ok-lay.ensures.table in
    done_text Pack _ _ _ _ _ due c.write_table.result c.write_table.ensures.status
    c.write_table.ensures.printed

-- or a part of it
pub returns-in-Ok-lay-clause-part : goal.returns-in-Ok-lay-clause-part
returns-in-Ok-lay-clause-part g c =
    let due = packed_due _ _ _ c.in-Ok.ensures.left c.in-Ok-lay.ensures.table in
    on_err_weaker c.write_table.result (part_if Pack _ _ _ DONE _ due) c.write_table.ensures.part

-- the bad line was named
pub returns-in-Ok-print_bad-clause-text : goal.returns-in-Ok-print_bad-clause-text
returns-in-Ok-print_bad-clause-text g c = let bad = c.in-Err-Bad in writes_if Pack _ _ _ BAD_LINE _
    (bad_due _ bad.line bad.cause (bad.ensures.bad bad.line bad.cause (ap Err bad.field-0-is)))
    (same_bad _ _ _ bad.line _ bad.cause bad.line-is bad.cause-is c.in-Ok-print_bad.ensures.printed)

-- or a part of its name
pub returns-in-Err-Bad-clause-part : goal.returns-in-Err-Bad-clause-part
returns-in-Err-Bad-clause-part g c = let bad = c.in-Err-Bad in part_if Pack _ _ _ BAD_LINE _
    (bad_due _ bad.line bad.cause (bad.ensures.bad bad.line bad.cause (ap Err bad.field-0-is)))
    (same_bad_part _ _ _ bad.line _ bad.cause bad.line-is bad.cause-is c.in-Err-print_bad.ensures.part)
