use Rattle.std.proofs.Common.{ℕ, List, length}
use Rattle.tele_generations.specs.Counts.{lane_count}
use Rattle.tele_generations.specs.Sizes.{first_words}
use Rattle.tele_generations.specs.Ways.{HasTables, IsOnItsWay}
use Rattle.tele_generations.proofs.running.run_round.Given as goal

abbrev pub invariant-loop-way : goal.invariant-loop-way
invariant-loop-way g l = record {
  tables : HasTables (lane_count l.workers l.steal)
      (first_words l.words l.workers (length l.pairs) (length l.tasks)) l.pairs l.tasks
      (g.H.Shelf.kept l.fn.shelf) (g.H.Shelf.kept l.shelf) l.way.fulls.items l.way.pairs.items
      l.way.left.items l.way.words;
  on : IsOnItsWay (lane_count l.workers l.steal) l.pairs l.tasks l.way.fulls.items
      l.way.answers.items l.way.pairs.items l.way.left.items l.way.words;
}

abbrev pub decreases-loop-way : goal.decreases-loop-way
decreases-loop-way g l = length l.way.left.items
