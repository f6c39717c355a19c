use Rattle.std.proofs.Common.{◌+◌, ◌-◌, ◌*◌, ◌^◌, ◌<◌, ◌≤◌}
use Rattle.ist_math.proofs.shares.root.Given as goal

-- the root is at least the lower number, and below the upper one
abbrev pub invariant-loop-low : goal.invariant-loop-low
invariant-loop-low l = record {
  between : l.low < l.high;
  small : l.high ≤ 2 ^ 16;
  square : l.low * l.low ≤ l.n;
  next_square : l.n < l.high * l.high;
}

abbrev pub decreases-loop-low : goal.decreases-loop-low
decreases-loop-low l = l.high - l.low
