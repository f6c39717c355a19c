-- Ideal trees by their size: how many words one takes, which inner rows it has, and how deep it is.
-- Each definition goes down from a node to its parts, up to `fuel` levels. A part has fewer keys
-- than the whole, so one level per key is enough, and more changes nothing.
use Rattle.std.specs.Prelude.{◌≡◌, ◌≤◌, ℕ, zero, suc, ◌+◌, max, List, [], ◌∷◌, map, refl}
use Rattle.std.specs.List.{sum_by, flat_map, fold}
use Rattle.std.proofs.Common.{lit≤}
use Rattle.ist_core.specs.Arithmetic.{degree, part_lens}
use Rattle.ist_core.specs.RowLayout.{leaf_words, inner_words}

-- the words of an ideal tree of n keys, up to `fuel` levels
unfoldable pub ideal_words_within : ℕ → ℕ → ℕ
ideal_words_within fuel zero = 0
ideal_words_within fuel (suc zero) = leaf_words
ideal_words_within zero n = 0
ideal_words_within (suc fuel) n =
    inner_words (degree n) + sum_by (ideal_words_within fuel) (part_lens n)

-- how many words an ideal tree of n keys takes: 0, or one leaf, or its top inner row and its parts
unfoldable pub ideal_words : ℕ → ℕ
ideal_words n = ideal_words_within n n

-- the shape of an ideal tree of n keys, up to `fuel` levels
unfoldable pub shape_within : ℕ → ℕ → List ℕ
shape_within fuel zero = []
shape_within fuel (suc zero) = []
shape_within zero n = []
shape_within (suc fuel) n = inner_words (degree n) ∷ flat_map (shape_within fuel) (part_lens n)

-- the lengths in words of the inner rows of an ideal tree: the top row's, then those in each part
unfoldable pub shape : ℕ → List ℕ
shape n = shape_within n n

-- the depth of an ideal tree of n keys, up to `fuel` levels
unfoldable pub depth_within : ℕ → ℕ → ℕ
depth_within fuel zero = 0
depth_within fuel (suc zero) = 0
depth_within zero n = 0
depth_within (suc fuel) n = suc (fold max 0 (map (depth_within fuel) (part_lens n)))

-- how many inner rows lie on a longest path down an ideal tree of n keys
unfoldable pub depth : ℕ → ℕ
depth n = depth_within n n

-- ---- shared rebuilding

-- from this many keys on, the helpers of a rebuild share its root and build one part each
pub share_from : ℕ
share_from = 256

-- a shared root has at least two keys: the laws use nothing else of the number
pub share_from_fits : 2 ≤ share_from
unfolding share_from
share_from_fits = lit≤ tt

-- the number itself, which the programs use
pub share_from_is : share_from ≡ 256
unfolding share_from
share_from_is = refl
