-- The tables in places, if no place is empty. Serves the shelf that keeps its tables.
use Rattle.std.proofs.Common.{◌≡◌, ℕ, suc, zero, ◌<◌, ◌≤◌, List, [], ◌∷◌, length, refl, ap, arith}
use Rattle.std.specs.Prelude.{Option, Some, None, IsSome, slice_get}
use Rattle.std.specs.Option.{option_to_list}
use Rattle.std.specs.List.{All, flat_map, slice_index_or}
use Rattle.std.proofs.lemmas.List.Elements.{All-head, All-tail}
use Rattle.std.proofs.lemmas.Option.{slice_get_past}

module _ {C : Type 0} where
  -- the tables in some places
  abbrev tables : List (Option C) → List C
  tables = flat_map option_to_list

  -- there are as many tables as places
  pub length-tables : (places : List (Option C)) → All IsSome places
      → length (tables places) ≡ length places
  length-tables [] all = refl
  length-tables (None ∷ places) all = absurd (cc (All-head IsSome None places all))
  length-tables (Some table ∷ places) all =
      ap suc (length-tables places (All-tail IsSome (Some table) places all))

  -- a place has the table of its number
  pub slice_get-tables : (places : List (Option C)) → All IsSome places
      → (number : ℕ) (other : Option C) → number < length places
      → slice_index_or places number other ≡ slice_get (tables places) number
  slice_get-tables [] all number other lt = absurd (omega (arith, lt))
  slice_get-tables (None ∷ places) all number other lt = absurd (cc (All-head IsSome None places all))
  slice_get-tables (Some table ∷ places) all zero other lt = refl
  slice_get-tables (Some table ∷ places) all (suc number) other lt =
      slice_get-tables places (All-tail IsSome (Some table) places all) number other
      (omega (arith, lt))

  -- past the places there is no table
  pub slice_get-tables_past : (places : List (Option C)) → All IsSome places
      → (number : ℕ) → length places ≤ number → slice_get (tables places) number ≡ None
  slice_get-tables_past places all number past = grind (arith, length-tables, slice_get_past)
