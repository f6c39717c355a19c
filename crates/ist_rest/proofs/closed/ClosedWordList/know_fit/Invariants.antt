use Rattle.std.proofs.Common.{◌<◌, ◌^◌, ℕ}
use Rattle.ist_rest.specs.WordRows.{word_at}
use Rattle.ist_rest.proofs.closed.ClosedWordList.know_fit.Given as goal

-- the words so far are below 2^64
abbrev pub invariant-loop-place : goal.invariant-loop-place
invariant-loop-place l = (k : ℕ) → k < l.place → word_at l.self k < 2 ^ 64
