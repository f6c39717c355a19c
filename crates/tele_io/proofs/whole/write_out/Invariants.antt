use Rattle.std.proofs.Common.{length, ◌≡◌, ◌-◌, ◌≤◌, take}
use Rattle.tele_io.specs.Bytes.{Appends}
use Rattle.tele_io.proofs.whole.write_out.Given as goal

abbrev pub invariant-loop-taken : goal.invariant-loop-taken
invariant-loop-taken g l = record {
  within : l.taken ≤ length l.bytes;
  taken : Appends (g.O.Sink.written l.initial.out) (g.O.Sink.written l.out) (take l.taken l.bytes);
  counted : g.O.Sink.faults l.initial.out ≤ g.O.Sink.faults l.out;
  idle : l.taken ≡ 0 → l.out ≡ l.initial.out;
}

abbrev pub decreases-loop-taken : goal.decreases-loop-taken
decreases-loop-taken g l = length l.bytes - l.taken
