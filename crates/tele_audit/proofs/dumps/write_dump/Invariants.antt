use Rattle.std.proofs.Common.{◌≤◌}
use Rattle.tele_audit.specs.Pieces.{HasDumped}
use Rattle.tele_audit.proofs.dumps.write_dump.Given as goal

-- what was written and the piece make the dump as far as this word
abbrev pub invariant-loop-place : goal.invariant-loop-place
invariant-loop-place g l = record {
  dumped : HasDumped (g.O.Sink.written l.fn.out) (g.O.Sink.written l.out) (g.W.WordList.list l.words) l.piece l.place;
  counted : g.O.Sink.faults l.fn.out ≤ g.O.Sink.faults l.out;
}
