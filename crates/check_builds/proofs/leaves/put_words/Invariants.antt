use Rattle.std.proofs.Common.{◌≡◌, ◌++◌, map}
use Rattle.check_builds.proofs.leaves.put_words.Given as goal

abbrev pub invariant-loop-word : goal.invariant-loop-word
invariant-loop-word l = l.waiting.items ≡ l.fn.waiting.items ++ map (λ y. y.now) l.yielded
