use Rattle.std.proofs.Common.{◌≡◌, ◌+◌, ◌-◌, ◌<◌, ◌≤◌, length}
use Rattle.std.specs.Prelude.{IfSome, IsSome, None}
use Rattle.tele_lines.specs.Lines.{line_limit}
use Rattle.tele_lines.specs.Rounds.{round_limit}
use Rattle.tele_lines.specs.Progress.{limit_of, count_of, stop_of, mode_of, has_ended, unread, TellsEnd}
use Rattle.tele_jobs.specs.Causes.{ReadsSparingly}
use Rattle.tele_jobs.specs.Due.{RunsTo, moment_of}
use Rattle.tele_jobs.specs.Open.{IsOpenBefore}
use Rattle.tele_jobs.proofs.ToldLemmas.{first_moment}
use Rattle.tele_jobs.proofs.DueRoundLemmas.{HasRounds}
use Rattle.tele_jobs.proofs.works.answer_all.Given as goal

-- what was printed and what is still due are the answer
abbrev pub invariant-loop-status : goal.invariant-loop-status
invariant-loop-status g l = let left = g.S.Source.left in let written = g.O.Sink.written in record {
  due : IfSome (left l.fn.source) (λ bytes.
      RunsTo first_moment bytes (written l.fn.out) (written l.out) (has_ended l.lines)
      (unread l.lines (left l.source)) (moment_of l.lines l.round));
  ran : IfSome (left l.fn.source) (λ bytes. HasRounds l.fn.round.team
      l.fn.round.words (g.H.Shelf.kept l.fn.shelf) (g.H.Shelf.kept l.shelf) l.round bytes
      (unread l.lines (left l.source)) (moment_of l.lines l.round));
  sparing : IfSome (left l.fn.source) (λ bytes. ReadsSparingly bytes (left l.source));
  lines : IsOpenBefore (count_of l.lines + 1) l.round;
  end : IsSome (left l.fn.source) → TellsEnd l.lines (left l.source);
  limit : limit_of l.lines ≡ line_limit;
  allowed : count_of l.lines ≤ line_limit;
  going : stop_of l.lines ≡ None;
  few : length l.round.tasks < round_limit;
  chosen : 0 < length l.round.tasks → IsSome (mode_of l.lines);
  source_counted : g.S.Source.faults l.fn.source ≤ g.S.Source.faults l.source;
  sink_counted : g.O.Sink.faults l.fn.out ≤ g.O.Sink.faults l.out;
}

-- each turn reads a line, and `line_limit` lines are allowed
abbrev pub decreases-loop-status : goal.decreases-loop-status
decreases-loop-status g l = line_limit - count_of l.lines
