-- A pass has found this; a handle of something else is as before.
use Rattle.std.proofs.Common.{refl}
use Rattle.ist_c.specs.Reads.{none_reads, up}
use Rattle.ist_c.proofs.ReadLemmas.{read_next}
use Rattle.ist_c.proofs.next_calls.at_least_in.Goals as goal

pub returns-in-Pass : goal.returns-in-Pass
returns-in-Pass c = let e = c.at_least.ensures in record {
  reads = read_next up c.args.held.now c.in-Pass.pass _ c.args.key c.write_pair.result
      c.at_least.result c.args.found.now c.write_pair.new.place c.in-Pass.is refl e.read e.next
      c.write_pair.ensures.wrote;
}

pub returns-in_default : goal.returns-in_default
returns-in_default c = record { reads = none_reads up c.args.held.now c.args.key c.args.found.now c.in_default.not-Pass }
