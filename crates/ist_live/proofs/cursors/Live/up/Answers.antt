use Rattle.ist_live.proofs.ReadLemmas.{read_not}
use Rattle.ist_live.proofs.cursors.Live.up.Goals as goal

-- above all keys there is nothing to read
pub returns-in_default-clause-read : goal.returns-in_default-clause-read
returns-in_default-clause-read c = read_not c.args.pass.now
