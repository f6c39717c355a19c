use Rattle.tele_jobs.proofs.MadeLemmas.{Sums}
use Rattle.tele_jobs.proofs.MadeRoundLemmas.{RunsMade}
use Rattle.tele_jobs.proofs.made.summarize.Given as goal

-- what was found and what is left are what all lines find, and the rounds are the rounds of all
-- lines
abbrev pub invariant-loop-line : goal.invariant-loop-line
invariant-loop-line g l = record {
  sums : Sums l.count l.seed l.line l.maker l.found l.round;
  runs : RunsMade l.fn.round.team l.fn.round.words l.count l.seed l.line
      l.maker (g.H.Shelf.kept l.fn.shelf) (g.H.Shelf.kept l.shelf) l.round;
}
