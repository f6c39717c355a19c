use Rattle.std.proofs.Common.{◌-◌, ◌≤◌, List}
use Rattle.ist_core.specs.declared.pairs.Pair.{Pair}
use Rattle.ist_scan.specs.Cuts.{IsSearchBetween, IsHalved}
use Rattle.ist_scan.specs.Shots.{HasOnlyLooked, ArePairsOf}
use Rattle.ist_scan.proofs.looking.count_below.Given as goal

-- what was looked at leaves the place between both numbers
abbrev pub invariant-loop-low : goal.invariant-loop-low
invariant-loop-low l = record {
  looked : HasOnlyLooked l.fn.pass l.pass;
  order : l.low ≤ l.high;
  within : l.high ≤ l.shot.keys;
  between : (pairs : List Pair) → ArePairsOf l.fn.pass l.shot pairs
      → IsSearchBetween pairs l.bound l.low l.high;
  halved : IsHalved l.shot.keys l.looks (l.high - l.low);
}

abbrev pub decreases-loop-low : goal.decreases-loop-low
decreases-loop-low l = l.high - l.low
