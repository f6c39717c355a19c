-- The first parts and the others, as a build goes through them. Serves `building`.
use Rattle.std.proofs.Common.{◌≡◌, ℕ, ◌+◌, ◌-◌, ◌<◌, [], ◌∷◌, ◌++◌, arith}
use Rattle.std.proofs.lemmas.List.{append-nil}
use Rattle.std.specs.List.{flat_map}
use Rattle.std.proofs.lemmas.List.Concat.{flat_map-append, flat_map-cons}
use Rattle.ist_core.specs.WordTerms.{degree, part_len, part_lens, shape}
use Rattle.laws_calls.specs.Dividing.{lens_to}
use Rattle.laws_calls.proofs.PartLemmas.{lens_more}
use Rattle.ist_build.specs.Midway.{lens_from}

-- ---- lengths

-- one part fewer is left
pub lens_left : (n j : ℕ) → j < degree n → lens_from n j ≡ part_len n j ∷ lens_from n (j + 1)
lens_left n j less = grind arith

-- all parts, and none
pub lens_first : (n : ℕ) → lens_from n 0 ≡ part_lens n
unfolding part_lens
lens_first n = grind arith

-- no part comes after the last
pub lens_last : (n : ℕ) → lens_from n (degree n) ≡ []
lens_last n = grind arith

-- ---- sizes

-- the sizes of the rows of one part more
pub sizes_next : (n j : ℕ)
    → flat_map shape (lens_to n (j + 1)) ≡ flat_map shape (lens_to n j) ++ shape (part_len n j)
sizes_next n j = grind (arith, lens_more, flat_map-append, flat_map-cons, append-nil)

-- and of one fewer
pub sizes_left : (n j : ℕ) → j < degree n
    → flat_map shape (lens_from n j) ≡ shape (part_len n j) ++ flat_map shape (lens_from n (j + 1))
sizes_left n j less = grind (arith, lens_left, flat_map-cons)
