use Rattle.std.proofs.Common.{◌≡◌, ◌≤◌, length, None}
use Rattle.tele_lanes.specs.Lines.{AnswerInOrder, CallInOrder, TellReplies}
use Rattle.tele_lanes.proofs.lanes.Lane.run.Given as goal

abbrev pub invariant-loop-index : goal.invariant-loop-index
invariant-loop-index g l = record {
  called : length (g.P.Port.calls l.port) ≡ l.index;
  answered : length l.answers.list ≡ l.index;
  room : length l.task-items ≤ l.answers.room;
  number : l.number ≡ l.fn.self.number;
  stopped : l.stopped ≡ None;
  unrefused : g.P.Port.refused l.port ≡ None;
  tie : g.P.Port.tie l.port ≡ g.P.Port.tie l.fn.self.port;
  calls : CallInOrder l.task-items (g.P.Port.calls l.port);
  answers : AnswerInOrder l.task-items l.answers.list;
  replies : TellReplies (g.P.Port.calls l.port) l.answers.list;
}
