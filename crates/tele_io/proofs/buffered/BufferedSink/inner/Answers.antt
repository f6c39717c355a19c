use Rattle.tele_io.proofs.BufferLemmas.{passed_part}
use Rattle.tele_io.proofs.buffered.BufferedSink.inner.Goals as goal

-- what was passed on is a part of what was taken
pub returns-clause-passed : goal.returns-clause-passed
returns-clause-passed g c text part = passed_part _ _ text part
