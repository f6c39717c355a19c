use Rattle.ist_live.proofs.ReadLemmas.{read_not}
use Rattle.ist_live.proofs.cursors.Live.down.Goals as goal

-- below all keys there is nothing to read
pub returns-in-Some-eq0-clause-read : goal.returns-in-Some-eq0-clause-read
returns-in-Some-eq0-clause-read c = read_not c.args.pass.now
