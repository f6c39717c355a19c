-- What is kept of the readings of sizes says which further sizes can be read if there is room for
-- every row, with the lists that existed when the readings were begun. Such sizes can also be read
-- with less room and with more lists.
use Rattle.std.specs.Prelude.{◌≡◌, ◌≤◌, ◌+◌, ◌-◌, ◌^◌, ℕ, true, List, [], Some, map, take, length, slice_index_or}
use Rattle.std.specs.Ordering.{nat_cmp}
use Rattle.std.specs.BTreeMap as tree
use Rattle.std.specs.BTreeMap.{BTreeMap}
use Rattle.ist_core.specs.Elements.{Among}
use Rattle.check_fairness.specs.declared.keeping.KeptReadings.{KeptReadings}
use Rattle.check_fairness.specs.declared.readings.SizeReading.{SizeReading}
use Rattle.check_fairness.specs.Searching.{Goes, all_spare}
use Rattle.check_fairness.specs.Readings.{AreReadings}

-- room for every row
abbrev pub any_room : ℕ
any_room = 2 ^ 64 - 1

-- sizes can be read with these lists, if there is room for every row
abbrev pub CanBeRead : List (List ℕ) → List ℕ → Type 0
CanBeRead lists sizes = Goes (λ l. Among l lists) any_room all_spare [] true sizes

-- what is left after the first n sizes, or nothing if fewer are kept
abbrev pub left_at : KeptReadings → ℕ → List SizeReading
left_at kept n = slice_index_or (map (λ v. v.items) kept.left.items) n []

-- what is kept after the first n sizes is what their readings leave, for each n, with the first of
-- the lists
pub record IsKept (lists : List (List ℕ)) (kept : KeptReadings) : Type 0 where
  pub within : kept.lists ≤ length lists
  pub long : length kept.left.items ≡ length kept.sizes.items + 1
  pub each : (n : ℕ) → n ≤ length kept.sizes.items
      → AreReadings (take kept.lists lists) any_room (take n kept.sizes.items) (left_at kept n)

-- what is kept for each caller is right
abbrev pub KnowsReadings : BTreeMap ℕ KeptReadings → List (List ℕ) → Type 0
KnowsReadings all lists =
    (caller : ℕ) (kept : KeptReadings) → tree.get nat_cmp all caller ≡ Some kept → IsKept lists kept

-- readings are kept for the caller, and these sizes can be read with the lists that existed when
-- they were begun
pub record GoOnFrom (all : BTreeMap ℕ KeptReadings) (lists : List (List ℕ)) (caller : ℕ) (sizes : List ℕ) : Type 0 where
  pub kept : KeptReadings
  pub found : tree.get nat_cmp all caller ≡ Some kept
  pub read : CanBeRead (take kept.lists lists) sizes

-- what is kept is for these sizes; if they can be read with all lists, they can be read with those
-- that are kept
pub record AreKeptIn (lists : List (List ℕ)) (sizes : List ℕ) (kept : KeptReadings) : Type 0 where
  pub sizes_are : kept.sizes.items ≡ sizes
  pub enough : CanBeRead lists sizes → CanBeRead (take kept.lists lists) sizes

-- such readings are kept for the caller
pub record AreKept (all : BTreeMap ℕ KeptReadings) (lists : List (List ℕ)) (caller : ℕ) (sizes : List ℕ) : Type 0 where
  pub kept : KeptReadings
  pub found : tree.get nat_cmp all caller ≡ Some kept
  pub are_kept : AreKeptIn lists sizes kept
