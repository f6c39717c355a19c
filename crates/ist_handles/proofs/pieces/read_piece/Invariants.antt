use Rattle.std.proofs.Common.{◌≡◌, ◌-◌, ◌<◌, length, take}
use Rattle.ist_live.proofs.PieceLemmas.{IsReadTo}
use Rattle.ist_handles.proofs.pieces.read_piece.Given as goal

-- the keys below the next one were read, and there is room for one more pair
abbrev pub invariant-pairs : goal.invariant-pairs
invariant-pairs l = record {
  read : IsReadTo l.fn.pass l.pass l.first l.from l.last (take l.count l.room);
  free : l.count < length l.room;
  room : length l.room ≡ length l.fn.room;
}

-- keys rise
abbrev pub decreases-pairs : goal.decreases-pairs
decreases-pairs l = l.last - l.from
