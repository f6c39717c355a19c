-- The pair is there, or the place is as before.
use Rattle.ist_handles.proofs.PairLemmas.{wrote_some, wrote_not}
use Rattle.ist_handles.proofs.pairs.write_pair.Goals as goal

pub returns-in-Some : goal.returns-in-Some
returns-in-Some c = record { wrote = wrote_some c.args.pair c.in-Some.pair c.args.place.now c.in-Some.is }

pub returns-in-None : goal.returns-in-None
returns-in-None c = record { wrote = wrote_not c.args.pair c.args.place.now c.in-None.is }
