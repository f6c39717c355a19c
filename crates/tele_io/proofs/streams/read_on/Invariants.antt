-- Each read so far was interrupted: the buffer has room, and the reader has what it had.
use Rattle.std.proofs.Common.{◌<◌, length}
use Rattle.tele_io.specs.Bytes.{Keeps}
use Rattle.tele_io.proofs.streams.read_on.Given as goal

abbrev pub invariant-loop : goal.invariant-loop
invariant-loop g l = (0 < length l.buf) × Keeps (g.R.Read.remaining l.initial.reader) (g.R.Read.remaining l.reader)
