use Rattle.ist_live.specs.Reading.{HasOnlyRead}
use Rattle.ist_live.specs.Pieces.{IsPiece}
use Rattle.try_example.specs.Pieces.{keys_left}
use Rattle.try_example.proofs.paging.read_in_pieces.Given as goal

-- the pieces so far are one piece
abbrev pub invariant-loop-next : goal.invariant-loop-next
invariant-loop-next l = record {
  read : HasOnlyRead l.fn.pass l.pass;
  piece : IsPiece l.fn.pass l.pass l.first l.last l.next l.pairs.items;
}

-- fewer keys are left
abbrev pub decreases-loop-next : goal.decreases-loop-next
decreases-loop-next l = keys_left l.next l.last
