-- The handle holds the shot with the pass, or the pass if it was refused.
use Rattle.std.proofs.Common.{refl}
use Rattle.ist_c.proofs.CallLemmas.{shot_taken, shot_not}
use Rattle.ist_c.proofs.shot_calls.take.Goals as goal

pub returns-in-Ok : goal.returns-in-Ok
returns-in-Ok c = let e = c.take_if_room.ensures in let o = c.of.ensures in record {
  takes = shot_taken c.args.taker _ c.of.result c.in-Ok.shot c.args.words c.args.short.now refl
      e.seen e.calls c.in-Ok.ensures.taken c.in-Ok.ensures.room o.taker o.shot;
}

pub returns-in-Err : goal.returns-in-Err
returns-in-Err c = let e = c.take_if_room.ensures in let r = c.refused.ensures in record {
  takes = shot_not c.args.taker _ c.args.words c.refused.result.status c.in-Err.numbers
      c.args.short.now c.refused.new.shortage refl e.seen e.calls c.in-Err.ensures.full
      c.in-Err.ensures.unstarted r.status r.numbers;
}
