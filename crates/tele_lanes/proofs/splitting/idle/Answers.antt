use Rattle.std.proofs.Common.{[], sym, arith}
use Rattle.std.proofs.lemmas.List.FromFn.{map-range_with_len_more}
use Rattle.tele_lanes.proofs.splitting.idle.Goals as goal

pub loop-lane-preserved : goal.loop-lane-preserved
loop-lane-preserved c = rw (c.in_ok-push.ensures.items, c.loop-lane.invariant, c.new.ensures.value)
    (sym (map-range_with_len_more (λ _. []) 0 c.loop-lane.lane c.loop-lane.lane (omega arith)))
