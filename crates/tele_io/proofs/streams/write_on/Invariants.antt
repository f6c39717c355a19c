-- Each write so far was interrupted: the writer has what it had.
use Rattle.tele_io.specs.Bytes.{Keeps}
use Rattle.tele_io.proofs.streams.write_on.Given as goal

abbrev pub invariant-loop : goal.invariant-loop
invariant-loop g l = Keeps (g.W.Write.contents l.initial.writer) (g.W.Write.contents l.writer)
