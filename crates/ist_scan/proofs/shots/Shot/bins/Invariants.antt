use Rattle.std.proofs.Common.{◌≡◌, ℕ, ◌<◌, List, length, slice_get, Some}
use Rattle.ist_core.specs.declared.pairs.Pair.{Pair}
use Rattle.ist_scan.specs.Shots.{HasOnlyLooked, ArePairsOf}
use Rattle.ist_scan.specs.Totals.{total_of, pairs_in_bin}
use Rattle.ist_scan.proofs.shots.Shot.bins.Given as goal

-- the bins so far are the shot's
abbrev pub invariant-loop-j : goal.invariant-loop-j
invariant-loop-j l = record {
  looked : HasOnlyLooked l.fn.pass l.pass;
  long : length l.out ≡ length l.fn.out;
  bins : (pairs : List Pair) → ArePairsOf l.fn.pass l.self pairs → (k : ℕ) → k < l.j
      → slice_get l.out k ≡ Some (total_of (pairs_in_bin pairs l.first l.width k));
}
