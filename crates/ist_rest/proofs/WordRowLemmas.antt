-- The keys and the slots of a row, one by one. Serves `rows`.
use Rattle.std.proofs.Common.{◌≡◌, ℕ, ◌+◌, ◌-◌, ◌<◌, ◌≤◌, List, length, get_or, arith}
use Rattle.std.proofs.lemmas.List.{length-take-le, length-drop}
use Rattle.std.specs.List.Sorted.{IsStrictlyIncreasing}
use Rattle.ist_math.proofs.ChildLemmas.{first-lt-last}
use Rattle.ist_rest.specs.WordRows.{row_degree, row_keys, row_slots}

-- how many keys and slots a row within the words has
pub row_lengths : (words : List ℕ) (base : ℕ) → 1 ≤ row_degree words base → base + 3 + row_degree
    words base + row_degree words base ≤ length words
    → (length (row_keys words base) + 1 ≡ row_degree words base)
    × (length (row_slots words base) ≡ row_degree words base)
row_lengths words base some room = grind (arith, length-drop, length-take-le)

-- the last of two keys or more is above the first
pub first_below_last : (keys : List ℕ) (at first last : ℕ) → IsStrictlyIncreasing keys → 1 ≤ at
    → at + 1 ≡ length keys → first ≡ get_or keys 0 0 → last ≡ get_or keys at 0 → first < last
first_below_last keys at first last rises some e f l = grind (arith, first-lt-last)
