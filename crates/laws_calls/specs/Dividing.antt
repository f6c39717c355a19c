-- How leaves are divided among the children of an ideal node, one part after another.
use Rattle.std.specs.Prelude.{List, Some, [], drop, length, map, slice_get, take, ℕ, ◌+◌, ◌++◌, ◌<◌, ◌∷◌, ◌≡◌, ◌≤◌}
use Rattle.std.specs.List.{range_with_len}
use Rattle.ist_core.specs.Arithmetic.{degree, part_len, part_start}
use Rattle.ist_core.specs.Leaves.{PlacedLeaf}
use Rattle.ist_core.specs.Parts.{cut, first_keys, parts}

-- the share of child j of n leaves, after the shares of the children before it
abbrev pub share_of : {A : Type 0} → ℕ → ℕ → List A → List A
share_of n j leaves = take (part_len n j) (drop (part_start n j) leaves)

-- how many leaves each of the first j parts has
abbrev pub lens_to : ℕ → ℕ → List ℕ
lens_to n j = map (part_len n) (range_with_len 0 j)

-- the first j parts
abbrev pub parts_to : ℕ → ℕ → List PlacedLeaf → List (List PlacedLeaf)
parts_to n j leaves = cut (lens_to n j) leaves

-- the part of each child is its share
abbrev pub PartsAreShares : Type 0
PartsAreShares =
    (leaves : List PlacedLeaf) (i : ℕ) → i < degree (length leaves)
    → slice_get (parts leaves) i ≡ Some (share_of (length leaves) i leaves)

-- the first parts and the next share are one part more
abbrev pub FirstPartsGoOn : Type 0
FirstPartsGoOn =
    (n j : ℕ) (leaves : List PlacedLeaf)
    → parts_to n (j + 1) leaves ≡ parts_to n j leaves ++ share_of n j leaves ∷ []

-- the first `degree` parts are all parts
abbrev pub FirstPartsAreAll : Type 0
FirstPartsAreAll =
    (leaves : List PlacedLeaf)
    → parts_to (length leaves) (degree (length leaves)) leaves ≡ parts leaves

-- the keys that a node has for some parts: the key of the first leaf of each part but the first
abbrev pub keys_of_parts : List (List PlacedLeaf) → List ℕ
keys_of_parts following = first_keys (λ leaf. leaf.row.key) (drop 1 following)

-- one part more, if it isn't the first, adds the key of its first leaf
abbrev pub FirstKeysGoOn : Type 0
FirstKeysGoOn =
    (n j : ℕ) (leaves : List PlacedLeaf) (leaf : PlacedLeaf) (others : List PlacedLeaf) → 1 ≤ j
    → share_of n j leaves ≡ leaf ∷ others
    → keys_of_parts (parts_to n (j + 1) leaves)
    ≡ keys_of_parts (parts_to n j leaves) ++ leaf.row.key ∷ []
