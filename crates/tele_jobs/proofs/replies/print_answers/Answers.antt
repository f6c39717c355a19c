use Rattle.std.proofs.Common.{arith, add-one, drop-cons}
use Rattle.tele_io.proofs.OutcomeLemmas.{at_refusal}
use Rattle.tele_jobs.proofs.RepliesLemmas.{one_printed, part_printed}
use Rattle.tele_jobs.proofs.replies.print_answers.Goals as goal

-- a part of one more answer
pub returns-in_err-print_answer-clause-part : goal.returns-in_err-print_answer-clause-part
returns-in_err-print_answer-clause-part g c = at_refusal c.from_residual.result
    (part_printed c.args.version _ _ _ c.args.answers.now _ _ _
    (drop-cons c.args.answers.now c.loop-answer.answer-index _ c.loop-answer-test.true)
    c.loop-answer.invariant.printed c.in_err-print_answer.ensures.part)

-- one more answer
pub loop-answer-preserved : goal.loop-answer-preserved
loop-answer-preserved g c = record {
  printed = rw add-one (one_printed c.args.version _ _ _ c.args.answers.now _ _ _
      (drop-cons c.args.answers.now c.loop-answer.answer-index _ c.loop-answer-test.true)
      c.loop-answer.invariant.printed c.in_ok-print_answer.ensures.printed);
  counted = omega (arith, c.loop-answer.invariant.counted, c.in_ok-print_answer.ensures.counted);
}
