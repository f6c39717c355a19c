-- The readings of some pairs, summed up.
use Rattle.std.specs.Prelude.{ℕ, ◌+◌, ◌*◌, ◌-◌, min, max, List, [], ◌∷◌, length, Option, Some, None}
use Rattle.std.specs.List.{sum_by}
use Rattle.ist_core.specs.declared.pairs.Pair.{Pair}
use Rattle.ist_core.specs.Map.{Map, listed, pairs_between}
use Rattle.ist_scan.specs.declared.totals.Total.{Total}

-- the lesser of a number and of another, if there is one
abbrev pub least_with : ℕ → Option ℕ → Option ℕ
least_with n None = Some n
least_with n (Some m) = Some (min n m)

-- the greater of a number and of another, if there is one
abbrev pub greatest_with : ℕ → Option ℕ → Option ℕ
greatest_with n None = Some n
greatest_with n (Some m) = Some (max n m)

-- the least value of some pairs, if there are any
abbrev pub least_of : List Pair → Option ℕ
least_of [] = None
least_of (pair ∷ pairs) = least_with pair.value (least_of pairs)

-- the greatest value of some pairs, if there are any
abbrev pub greatest_of : List Pair → Option ℕ
greatest_of [] = None
greatest_of (pair ∷ pairs) = greatest_with pair.value (greatest_of pairs)

-- how many pairs there are, the sum of their values, the least and the greatest of them
abbrev pub total_of : List Pair → Total
total_of pairs =
    record {
      keys = length pairs;
      sum = sum_by (λ pair. pair.value) pairs;
      least = least_of pairs;
      greatest = greatest_of pairs;
    }

-- those of some pairs whose keys are in bin number j of this width, counted from a first key
abbrev pub pairs_in_bin : List Pair → ℕ → ℕ → ℕ → List Pair
pairs_in_bin pairs first width j =
    pairs_between (first + j * width) (first + (j + 1) * width - 1) pairs

-- what a map has in bin number j of this width, counted from a first key
abbrev pub in_bin : Map → ℕ → ℕ → ℕ → List Pair
in_bin m first width j = listed (first + j * width) (first + (j + 1) * width - 1) m
