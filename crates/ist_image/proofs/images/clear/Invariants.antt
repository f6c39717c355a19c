use Rattle.std.proofs.Common.{◌≡◌, ℕ, ◌<◌, ◌≤◌, ◌⊎◌, length, slice_get, Some}
use Rattle.ist_image.proofs.images.clear.Given as goal

-- the words so far are 0, and so are those after the used ones
abbrev pub invariant-loop-i : goal.invariant-loop-i
invariant-loop-i l =
    (place : ℕ) → l.from ≤ place → (place < l.i) ⊎ (l.used ≤ place) → place < length l.words
    → slice_get l.words place ≡ Some 0
