use Rattle.std.proofs.Common.{sym}
use Rattle.ist_core.specs.WordTerms.{share_from_fits, share_from_is}
use Rattle.ist_math.proofs.laws.shared_roots_have_several_keys.Goals as goal

pub returns-clause-value : goal.returns-clause-value
returns-clause-value c = sym share_from_is

pub returns-clause-least : goal.returns-clause-least
returns-clause-least c = share_from_fits
