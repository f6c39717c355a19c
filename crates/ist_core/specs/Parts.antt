-- A list cut into the parts that the children of an ideal node have.
use Rattle.std.specs.Prelude.{ℕ, List, [], ◌∷◌, length, take, drop}
use Rattle.ist_core.specs.Arithmetic.{part_lens}

-- the list cut into pieces of these lengths, one after another
abbrev pub cut : {A : Type 0} → List ℕ → List A → List (List A)
cut [] xs = []
cut (n ∷ ns) xs = take n xs ∷ cut ns (drop n xs)

-- the list cut into the parts that the children of an ideal node have
abbrev pub parts : {A : Type 0} → List A → List (List A)
parts xs = cut (part_lens (length xs)) xs

-- the key of the first element of each part
abbrev pub first_keys : {A : Type 0} → (A → ℕ) → List (List A) → List ℕ
first_keys key [] = []
first_keys key ([] ∷ rest) = first_keys key rest
first_keys key ((x ∷ xs) ∷ rest) = key x ∷ first_keys key rest
