use Rattle.std.proofs.Common.{◌≡◌, ◌-◌, ◌<◌, length, take}
use Rattle.ist_handles.proofs.ShotPieceLemmas.{IsShotReadTo, IsWalkOf}
use Rattle.ist_handles.proofs.shot_pieces.read_shot.Given as goal

-- the first pairs of the interval were written, the walk is after them, and there is room for one more
abbrev pub invariant-pairs : goal.invariant-pairs
invariant-pairs l = record {
  read : IsShotReadTo l.fn.pass l.pass l.shot l.first l.last l.count (take l.count l.room);
  walk : IsWalkOf l.pass l.walk l.shot l.first l.last l.count;
  free : l.count < length l.room;
  room : length l.room ≡ length l.fn.room;
}

-- the room fills up
abbrev pub decreases-pairs : goal.decreases-pairs
decreases-pairs l = length l.room - l.count
