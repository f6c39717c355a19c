use Rattle.std.proofs.Common.{◌+◌, mod-lt, arith}
use Rattle.ist_mark.proofs.spreading.nth_slot.Goals as goal

pub returns : goal.returns
returns c = record { within = mod-lt (c.args.first + c.args.k) (omega arith) }
