use Rattle.std.proofs.Common.{ap, ◌∙◌, subst}
use Rattle.tele_io.specs.Bytes.{Appends, AppendsPart}
use Rattle.tele_io.proofs.AppendsLemmas.{AppendsPart-nothing}
use Rattle.tele_io.proofs.OutcomeLemmas.{at_ok, on_err, on_ok}
use Rattle.tele_jobs.specs.Open.{answers_text, map_in}
use Rattle.tele_jobs.proofs.AnswerLemmas.{text-answered}
use Rattle.tele_jobs.proofs.steps.answer.Goals as goal

-- the round was closed, whether its answers are printed or not; their text is that of the lines
pub returns-in-Ok : goal.returns-in-Ok
returns-in-Ok g c = let closed = c.in-Ok.ensures in let print = c.print_answers.ensures in
    let result = c.print_answers.result in
    let text = ap (answers_text c.args.version) c.answers.ensures.value
    ∙ text-answered c.args.version (map_in c.args.round.now) _ c.close.new.round.answers
    closed.closed.answered in
    record {
      printed = on_ok result print.printed (subst
          (Appends (g.O.Sink.written c.args.out.now) (g.O.Sink.written c.print_answers.new.out)) text);
      following = at_ok result closed.closed.following;
      none = at_ok result closed.closed.none;
      ran = at_ok result closed.ran;
      few = at_ok result closed.few;
      failed = print.failed;
      part = on_err result print.part (subst
          (AppendsPart (g.O.Sink.written c.args.out.now) (g.O.Sink.written c.print_answers.new.out))
          text);
      counted = print.counted;
    }

-- if memory ran out, nothing is printed
pub returns-in-Err-clause-part : goal.returns-in-Err-clause-part
returns-in-Err-clause-part g c = AppendsPart-nothing _ _

pub returns-in-Err-clause-failed : goal.returns-in-Err-clause-failed
returns-in-Err-clause-failed g c is = absurd (cc is)
