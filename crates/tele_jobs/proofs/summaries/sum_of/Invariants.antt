use Rattle.std.proofs.Common.{◌≡◌, ◌%◌, ◌^◌, take}
use Rattle.std.specs.List.{sum_by}
use Rattle.tele_jobs.proofs.summaries.sum_of.Given as goal

-- the sum of the values so far
abbrev pub invariant-loop-pair : goal.invariant-loop-pair
invariant-loop-pair l = l.sum ≡ sum_by (λ p. p.value) (take l.pair-index l.pairs) % 2 ^ 64
