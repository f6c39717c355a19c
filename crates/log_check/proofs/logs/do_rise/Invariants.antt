use Rattle.std.proofs.Common.{ℕ, ◌+◌, ◌<◌, map, slice_index}
use Rattle.log_check.proofs.logs.do_rise.Given as goal

abbrev pub invariant-loop-i : goal.invariant-loop-i
invariant-loop-i l = (k : ℕ) → k + 1 < l.i
    → slice_index (map (λ pair. pair.key) l.pairs) k < slice_index (map (λ pair. pair.key) l.pairs)
    (k + 1)
