use Rattle.std.proofs.Common.{◌-◌}
use Rattle.ist_live.proofs.PieceLemmas.{IsReadTo}
use Rattle.try_example.proofs.paging.read_piece.Given as goal

-- the keys below the next one were read
abbrev pub invariant-pairs : goal.invariant-pairs
invariant-pairs l = IsReadTo l.fn.pass l.pass l.first l.from l.last l.pairs.items

abbrev pub decreases-pairs : goal.decreases-pairs
decreases-pairs l = l.last - l.from
