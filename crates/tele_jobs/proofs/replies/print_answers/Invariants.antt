use Rattle.std.proofs.Common.{◌≤◌, drop}
use Rattle.tele_jobs.proofs.RepliesLemmas.{HasPrinted}
use Rattle.tele_jobs.proofs.replies.print_answers.Given as goal

-- the answers so far were printed, and the others are left
abbrev pub invariant-loop-answer : goal.invariant-loop-answer
invariant-loop-answer g l = record {
  printed : HasPrinted l.version (g.O.Sink.written l.fn.out) (g.O.Sink.written l.out) l.answers
      (drop l.answer-index l.answers);
  counted : g.O.Sink.faults l.fn.out ≤ g.O.Sink.faults l.out;
}
