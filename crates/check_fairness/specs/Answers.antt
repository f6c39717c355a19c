-- Terms for the result of a look-up.
use Rattle.std.specs.Prelude.{◌≡◌, ◌≤◌, ℕ, IsTrue, Option, Some, None}
use Rattle.std.specs.Ordering.{nat_cmp}
use Rattle.std.specs.BTreeSet.{BTreeSet, contains}

-- the result is the one number with P, or `None` if there is no such number
abbrev pub FindsOne : (ℕ → Type 0) → Option ℕ → Type 0
FindsOne P None = (x : ℕ) → ¬ (P x)
FindsOne P (Some x) = P x × ((y : ℕ) → P y → y ≡ x)

-- the result is the greatest number with P, or `None` if there is no such number
abbrev pub FindsGreatest : (ℕ → Type 0) → Option ℕ → Type 0
FindsGreatest P None = (x : ℕ) → ¬ (P x)
FindsGreatest P (Some x) = P x × ((y : ℕ) → P y → y ≤ x)

-- the set holds the number
abbrev pub Holds : BTreeSet ℕ → ℕ → Type 0
Holds set x = IsTrue (contains nat_cmp set x)
