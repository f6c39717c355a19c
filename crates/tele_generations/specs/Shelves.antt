-- What a shelf reports of the tables that it was given.
use Rattle.std.specs.Prelude.{◌≡◌, List, ◌++◌, Bool, true, false, Option, Some, None}
use Rattle.std.specs.Option.{option_to_list}
use Rattle.std.specs.List.{flat_map}
use Rattle.tele_generations.specs.declared.kept.Kept.{Kept}

-- the tables were put on a shelf: if it reports its tables then, it reported them before, and the
-- new ones come after the old
abbrev pub IsShelved : {C : Type 0} → Option (List C) → List C → Option (List C) → Type 0
IsShelved before given None = Unit {0}
IsShelved None given (Some after) = ⊥
IsShelved (Some before) given (Some after) = after ≡ before ++ given

-- the tables that a shelf keeps, in the order in which they came
abbrev pub tables_in : {C : Type 0} → Kept C → List C
tables_in shelf = flat_map option_to_list shelf.places.items

-- these tables, if the shelf kept all
abbrev pub if_all : {C : Type 0} → Bool → List C → Option (List C)
if_all true tables = Some tables
if_all false tables = None

-- what a shelf reports: the tables that it was given, if it keeps them all
abbrev pub shelf_report : {C : Type 0} → Kept C → Option (List C)
shelf_report shelf = if_all shelf.has_all (tables_in shelf)
