use Rattle.std.proofs.Common.{◌≡◌, ◌-◌, ◌*◌, ◌^◌, ◌≤◌, List}
use Rattle.ist_core.specs.declared.pairs.Pair.{Pair}
use Rattle.ist_scan.specs.Cuts.{slice_of}
use Rattle.ist_scan.specs.Totals.{total_of}
use Rattle.ist_scan.specs.Shots.{HasOnlyLooked, ArePairsOf}
use Rattle.ist_scan.proofs.shots.total_at.Given as goal

-- the total is over the pairs that were looked at
abbrev pub invariant-loop-i : goal.invariant-loop-i
invariant-loop-i l = record {
  looked : HasOnlyLooked l.fn.pass l.pass;
  order : l.fn.ends.low ≤ l.i;
  total : (pairs : List Pair) → ArePairsOf l.fn.pass l.shot pairs
      → l.total ≡ total_of (slice_of pairs l.fn.ends.low l.i);
  count : l.total.keys ≡ l.i - l.fn.ends.low;
  sum : l.total.sum ≤ l.total.keys * 2 ^ 64;
}
