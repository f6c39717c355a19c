use Rattle.std.proofs.Common.{◌≡◌, ◌≤◌, List}
use Rattle.ist_core.specs.declared.pairs.Pair.{Pair}
use Rattle.ist_scan.specs.Cuts.{slice_of}
use Rattle.ist_scan.specs.Shots.{HasOnlyLooked, ArePairsOf}
use Rattle.ist_scan.proofs.shots.list_at.Given as goal

-- the list has the pairs that were looked at
abbrev pub invariant-loop-i : goal.invariant-loop-i
invariant-loop-i l = record {
  looked : HasOnlyLooked l.fn.pass l.pass;
  order : l.fn.ends.low ≤ l.i;
  list : (pairs : List Pair) → ArePairsOf l.fn.pass l.shot pairs
      → l.list.items ≡ slice_of pairs l.fn.ends.low l.i;
}
