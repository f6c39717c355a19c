-- What was printed stays taken, whether it is passed on or not. Serves the ends of rounds.
use Rattle.std.proofs.Common.{ℕ, List, Option, arith}
use Rattle.tele_io.specs.Bytes.{Appends, AppendsPart, Keeps}
use Rattle.tele_io.proofs.AppendsLemmas.{AppendsPart-whole}
use Rattle.tele_io.proofs.KeepsLemmas.{appends_keeps, part_keeps}

-- a part that was printed stays taken
pub part_passed : (before middle now : Option (List ℕ)) (bytes : List ℕ)
    → Appends before middle bytes → Keeps middle now → AppendsPart before now bytes
part_passed before middle now bytes printed kept = grind (arith, part_keeps, AppendsPart-whole)

pub ruleset passes = (appends_keeps, part_passed)
