use Rattle.std.proofs.Common.{◌≡◌, ◌<◌, ◌≤◌, ℕ}
use Rattle.ist_rest.specs.WordRows.{word_at}
use Rattle.ist_rest.proofs.bounds.are_in_bounds.Given as goal

-- the free words so far are 0
abbrev pub invariant-loop-place : goal.invariant-loop-place
invariant-loop-place g l = (k : ℕ) → l.next ≤ k → k < l.place → word_at (g.W.WordList.list l.words) k ≡ 0
