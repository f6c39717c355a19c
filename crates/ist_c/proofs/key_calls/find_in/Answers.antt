-- A pass has found this; a handle of something else is as before.
use Rattle.std.proofs.Common.{refl}
use Rattle.ist_c.specs.Calls.{none_finds}
use Rattle.ist_c.proofs.CallLemmas.{found}
use Rattle.ist_c.proofs.key_calls.find_in.Goals as goal

pub returns-in-Pass : goal.returns-in-Pass
returns-in-Pass c = let e = c.find.ensures in record {
  finds = found c.args.held.now c.in-Pass.pass _ c.args.key c.find.result c.replied.result
      c.in-Pass.is refl e.seen e.added c.replied.ensures.status c.replied.ensures.reply;
}

pub returns-in_default : goal.returns-in_default
returns-in_default c = record {
  finds = none_finds c.args.held.now c.args.key c.misused.result c.in_default.not-Pass
      c.misused.ensures.status;
}
