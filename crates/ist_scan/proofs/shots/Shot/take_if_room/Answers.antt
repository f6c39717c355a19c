-- The shot is taken after the look, by the same pass.
use Rattle.ist_scan.proofs.RoomLemmas.{err_both, few_if_ok, keeps_both, ok_both, room_if_ok, seen_both}
use Rattle.ist_scan.proofs.shots.Shot.take_if_room.Goals as goal

pub returns-clause-seen : goal.returns-clause-seen
returns-clause-seen c =
    seen_both c.args.pass.now c.look_for.new.pass c.take.new.pass c.look_for.ensures.seen
    c.take.ensures.seen

pub returns-clause-taken : goal.returns-clause-taken
returns-clause-taken c =
    ok_both c.args.pass.now c.look_for.new.pass c.take.new.pass c.look_for.ensures.seen
    c.take.ensures.seen c.take.result c.take.ensures.taken

pub returns-clause-room : goal.returns-clause-room
returns-clause-room c =
    room_if_ok c.args.pass.now c.look_for.new.pass c.take.new.pass c.look_for.ensures.seen
    c.take.ensures.seen c.args.words c.in_ok-look_for.ensures.room c.take.result

pub returns-clause-full : goal.returns-clause-full
returns-clause-full c =
    err_both c.args.pass.now c.look_for.new.pass c.take.new.pass c.look_for.ensures.seen
    c.take.ensures.seen c.args.words c.in_ok-look_for.ensures.room c.look_for.ensures.none c.take.result
    c.take.ensures.full

pub returns-clause-refused : goal.returns-clause-refused
returns-clause-refused c =
    keeps_both c.args.pass.now c.look_for.new.pass c.take.new.pass c.look_for.ensures.seen
    c.take.ensures.seen c.look_for.ensures.refused c.take.ensures.refused

pub returns-clause-few : goal.returns-clause-few
returns-clause-few c =
    few_if_ok c.args.pass.now c.look_for.new.pass c.take.new.pass c.look_for.ensures.seen
    c.take.ensures.seen c.look_for.ensures.none c.look_for.ensures.refused c.take.result
    c.take.ensures.few
